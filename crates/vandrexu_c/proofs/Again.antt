-- A place of a list that is emptied, and filled again.
use Rattle.std.proofs.Common.{List, ap, refl, slice_set, ℕ, ◌∷◌, ◌≡◌, [], suc, zero}
use Rattle.std.specs.Prelude.{None, Option, Some, slice_get}

-- nobody is at a place that was emptied
emptied : {A : Type 0} (xs : List (Option A)) (i : ℕ) (x : Option A) → slice_get xs i ≡ Some x
    → slice_get (slice_set xs i None) i ≡ Some None
emptied [] i x at = absurd (let f = at in cc)
emptied (y ∷ xs) zero x at = refl
emptied (y ∷ xs) (suc i) x at = emptied xs i x at

-- what is filled again is as it was
filled : {A : Type 0} (xs : List (Option A)) (i : ℕ) (x : Option A) → slice_get xs i ≡ Some x
    → slice_set (slice_set xs i None) i x ≡ xs
filled [] i x at = absurd (let f = at in cc)
filled (y ∷ xs) zero x at = let f : Some y ≡ Some x = at in cc
filled (y ∷ xs) (suc i) x at = ap (λ zs. y ∷ zs) (filled xs i x at)

pub is_empty_at : {A : Type 0} (xs ys : List (Option A)) (i : ℕ) (x : Option A) → slice_get xs i ≡ Some x
    → ys ≡ slice_set xs i None → slice_get ys i ≡ Some None
is_empty_at xs ys i x at is = rw is (emptied xs i x at)

pub is_back : {A : Type 0} (xs ys zs : List (Option A)) (i : ℕ) (x : Option A) → slice_get xs i ≡ Some x
    → ys ≡ slice_set xs i None → zs ≡ slice_set ys i x → zs ≡ xs
is_back xs ys zs i x at is back = let f : slice_set ys i x ≡ xs = rw is (filled xs i x at) in let g = back in cc
