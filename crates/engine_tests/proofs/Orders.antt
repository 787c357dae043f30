-- Passes in the order of their numbers.
use Rattle.std.proofs.Common.{List, Some, [], ap, arith, length, length-append, refl, subst, suc, zero, ℕ, ◌+◌, ◌++◌}
use Rattle.std.proofs.Common.{◌∙◌, ◌≡◌, ◌∷◌}
use Rattle.std.specs.Prelude.{slice_get}
use Rattle.std.proofs.lemmas.List.{nil_from_length}

module _ {A : Type 0} where
  -- the three of a list, taken off its end
  pub last_three : (P : ℕ → A → Type 0) (l xs ys zs : List A) (a b c : A) → l ≡ xs ++ a ∷ [] → xs ≡ ys ++ b ∷ []
      → ys ≡ zs ++ c ∷ [] → length l ≡ 3
      → ((k : ℕ) (p : A) → slice_get l k ≡ Some p → P k p) → P 2 a × P 1 b × P 0 c
  last_three P l xs ys zs a b c e1 e2 e3 three all =
      let n1 = ap length e1 ∙ length-append xs (a ∷ []) in
      let n2 = ap length e2 ∙ length-append ys (b ∷ []) in
      let n3 = ap length e3 ∙ length-append zs (c ∷ []) in
      let none : zs ≡ [] = nil_from_length zs (omega (arith, n1, n2, n3, three)) in
      let is : l ≡ c ∷ b ∷ a ∷ [] = e1
      ∙ ap (λ t. t ++ a ∷ []) (e2 ∙ ap (λ t. t ++ b ∷ []) (e3 ∙ ap (λ t. t ++ c ∷ []) none)) in
      let each : (k : ℕ) (p : A) → slice_get (c ∷ b ∷ a ∷ []) k ≡ Some p → P k p =
      subst (λ (t : List A). (k : ℕ) (p : A) → slice_get t k ≡ Some p → P k p) is all in
      (each 2 a refl, each 1 b refl, each 0 c refl)

  -- and put into one
  pub each_of_three : (P : ℕ → A → Type 0) (a b c : A) → P 0 a → P 1 b → P 2 c → (k : ℕ) (p : A)
      → slice_get (a ∷ b ∷ c ∷ []) k ≡ Some p → P k p
  each_of_three P a b c x y z zero p e = let same : a ≡ p = cc in subst (P 0) same x
  each_of_three P a b c x y z (suc zero) p e = let same : b ≡ p = cc in subst (P 1) same y
  each_of_three P a b c x y z (suc (suc zero)) p e = let same : c ≡ p = cc in subst (P 2) same z
  each_of_three P a b c x y z (suc (suc (suc k))) p e = cc
