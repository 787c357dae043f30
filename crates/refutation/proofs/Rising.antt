-- What rises still does with one more behind its last.
use Rattle.std.proofs.Common.{Bool, List, None, Option, Some, [], ap, arith, length, refl, slice_get, suc, sym, true}
use Rattle.std.proofs.Common.{◌++◌}
use Rattle.std.proofs.Common.{◌-◌, ◌∙◌, ◌∷◌, ◌≡◌}
use Rattle.std.proofs.lemmas.Bool.{and_from, and_parts}
use Rattle.refutation.specs.Refutations.{is_behind, last_of, rises}

module _ {A : Type 0} (before : A → A → Bool) where
  -- the last one, or one that was there before
  abbrev last_or : Option A → List A → Option A
  last_or o [] = o
  last_or o (x ∷ xs) = last_or (Some x) xs

  last_is : (x : A) (xs : List A) → last_of (x ∷ xs) ≡ last_or (Some x) xs
  last_is x [] = refl
  last_is x (y ∷ ys) =
      let more : length (x ∷ y ∷ ys) - 1 ≡ suc (length (y ∷ ys) - 1) = omega arith in
      ap (slice_get (x ∷ y ∷ ys)) more ∙ last_is y ys

  rises_more : (o : Option A) (xs : List A) (x : A) → rises before o xs ≡ true
      → is_behind before (last_or o xs) x ≡ true → rises before o (xs ++ x ∷ []) ≡ true
  rises_more o [] x h e = and_from _ _ e refl
  rises_more o (y ∷ ys) x h e =
      and_from _ _ (and_parts _ _ h).0 (rises_more (Some y) ys x (and_parts _ _ h).1 e)

  pub still_rises : (xs : List A) (x : A) → rises before None xs ≡ true → is_behind before (last_of xs) x ≡ true
      → rises before None (xs ++ x ∷ []) ≡ true
  still_rises [] x h e = rises_more None [] x h refl
  still_rises (y ∷ ys) x h e =
      rises_more None (y ∷ ys) x h (ap (λ o. is_behind before o x) (sym (last_is y ys)) ∙ e)
