-- The CIDs in use, counted.
use Rattle.std.proofs.Common.{Bool, List, [], ap, arith, cond, eq-eqb, eqb, false, get_or, inl, inr, length, lt-ltb}
use Rattle.std.proofs.Common.{nat_lt, refl, replicate, set, subst, suc, sym, true, ℕ, ◌+◌, ◌++◌, ◌<◌, ◌||◌, ◌∙◌, ◌∷◌}
use Rattle.std.proofs.Common.{◌≡◌, ◌≢◌}
use Rattle.std.specs.List.{count_by, list_any}
use Rattle.std.specs.List.Sorted.{IsPermutation}
use Rattle.std.proofs.lemmas.Bool.{cases_eq}
use Rattle.std.proofs.lemmas.Bool.Decides.{nat_tests}
use Rattle.std.proofs.lemmas.List.{get_or-replicate, get_or-set_other, get_or-set_same, length-replicate, length-set}
use Rattle.std.proofs.lemmas.List.Sorted.{sum_by-IsPermutation}
use Rattle.std.proofs.lemmas.List.Sums.{sum_by-append, sum_by-cons}
use Rattle.rings.specs.Used.{AreInUse, AreUsed, UsedCids, is_used}

-- ---- counts

-- how many of two lists
pub count_append : (p : ℕ → Bool) (xs ys : List ℕ) → count_by p (xs ++ ys) ≡ count_by p xs + count_by p ys
count_append p xs ys = sum_by-append (λ x. cond (p x) 1 0) xs ys

-- and of one more
pub count_cons : (p : ℕ → Bool) (x : ℕ) (xs : List ℕ) → count_by p (x ∷ xs) ≡ cond (p x) 1 0 + count_by p xs
count_cons p x xs = sum_by-cons (λ y. cond (p y) 1 0) x xs

-- one passes exactly where some are counted
any_count : (p : ℕ → Bool) (xs : List ℕ) → list_any p xs ≡ nat_lt 0 (count_by p xs)
any_count p [] = refl
any_count p (x ∷ xs) = by (p x) (any_count p xs) ∙ ap (nat_lt 0) (sym (count_cons p x xs))
  where
    by : (b : Bool) → list_any p xs ≡ nat_lt 0 (count_by p xs)
        → (b || list_any p xs) ≡ nat_lt 0 (cond b 1 0 + count_by p xs)
    by true h = grind (arith, nat_tests)
    by false h = grind (arith, nat_tests)

-- lists of the same counts have the same CIDs
pub same_in : (xs ys : List ℕ) → ((p : ℕ → Bool) → count_by p xs ≡ count_by p ys) → (cid : ℕ)
    → is_used cid xs ≡ is_used cid ys
same_in xs ys h cid = any_count _ xs ∙ ap (nat_lt 0) (h _) ∙ sym (any_count _ ys)

-- and the same length
all_counted : (xs : List ℕ) → count_by (λ _. true) xs ≡ length xs
all_counted [] = refl
all_counted (x ∷ xs) = count_cons (λ _. true) x xs ∙ omega (arith, all_counted xs)

pub same_length : (xs ys : List ℕ) → ((p : ℕ → Bool) → count_by p xs ≡ count_by p ys) → length xs ≡ length ys
same_length xs ys h = sym (all_counted xs) ∙ h (λ _. true) ∙ all_counted ys

-- one that is counted is in use
pub is_among : (u : UsedCids) (cid n : ℕ) → count_by (λ one. eqb one cid) u.cids ≡ cond (eqb cid cid) 1 0 + n
    → is_used cid u.cids ≡ true
is_among u cid n e =
    let one = ap (λ b. cond b 1 0 + n) (eq-eqb cid cid refl) in
    any_count (λ x. eqb x cid) u.cids ∙ lt-ltb 0 _ (omega (arith, e, one))

-- without one of them
pub one_less : (cid : ℕ) (xs ys : List ℕ) → IsPermutation xs (cid ∷ ys) → (p : ℕ → Bool)
    → count_by p xs ≡ cond (p cid) 1 0 + count_by p ys
one_less cid xs ys same p = sym (sum_by-IsPermutation (λ x. cond (p x) 1 0) xs (cid ∷ ys) same) ∙ count_cons p cid ys

-- ---- of each submission queue

-- none is in use
pub none_used : (count most : ℕ) (ones : ℕ → List ℕ) (us : List UsedCids) → ((q : ℕ) → ones q ≡ [])
    → us ≡ replicate count (record { room = most; cids = [] }) → AreInUse count most ones us
none_used count most ones us none e = subst (AreInUse count most ones) (sym e) (record {
  size = length-replicate count _;
  at = λ k d below. subst (AreUsed most (ones (suc k)))
      (sym (get_or-replicate count k (record { room = most; cids = [] }) d below))
      (record { cids = λ p. ap (count_by p) (sym (none (suc k))); room = refl });
})

-- a list of them where one has changed, and the counts of the others have not
pub used_set : (count most : ℕ) (before after : ℕ → List ℕ) (us : List UsedCids) (i : ℕ) (y : UsedCids)
    → AreInUse count most before us → i < count → AreUsed most (after (suc i)) y
    → ((k : ℕ) → k ≢ i → (p : ℕ → Bool) → count_by p (after (suc k)) ≡ count_by p (before (suc k)))
    → AreInUse count most after (set us i y)
used_set count most before after us i y a within here others = record {
  size = length-set us i y ∙ a.size;
  at = λ k d below. elim (cases_eq k i) [
    | inl same ↦
        subst (λ (m : ℕ). AreUsed most (after (suc m)) (get_or (set us i y) m d)) (sym same)
        (subst (AreUsed most (after (suc i)))
        (sym (get_or-set_same us i y d (let there : i < length us = omega (arith, a.size, within) in there))) here)
    | inr apart ↦
        let kept = a.at k d below in
        subst (AreUsed most (after (suc k))) (sym (get_or-set_other us i k y d apart))
        (record { cids = λ p. kept.cids p ∙ sym (others k apart p); room = kept.room })
  ];
}

-- those of the queue at this place
pub used_at : (count most : ℕ) (ones : ℕ → List ℕ) (us : List UsedCids) (i q : ℕ) (u : UsedCids)
    → AreInUse count most ones us → i + 1 ≡ q → i < count → u ≡ get_or us i u → AreUsed most (ones q) u
used_at count most ones us i q u a next within there =
    subst (λ (m : ℕ). AreUsed most (ones m) u) (let same : suc i ≡ q = omega (arith, next) in same)
    (subst (AreUsed most (ones (suc i))) (sym there) (a.at i u within))
