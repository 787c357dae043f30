-- Lists of which one element is another than before.
use Rattle.std.proofs.Common.{List, None, Some, [], ap, arith, refl, subst, suc, sym, zero, ℕ, ◌∷◌}
use Rattle.std.proofs.Common.{◌≡◌, ◌≢◌}
use Rattle.std.specs.Prelude.{slice_get, slice_set}
use Rattle.plain_lemmas.proofs.Options.{some_one}

pub none_some : {A : Type 0} {X : Type 0} (x : A) → None ≡ Some x → X
none_some x h = absurd (let a = h in cc)

-- what holds of the elements at other places, and of the one that was put at this place, holds of each
pub element_of : {A : Type 0} (P : ℕ → A → Type 0) (xs : List A) (s : ℕ) (y : A)
    → ((i : ℕ) (x : A) → i ≢ s → slice_get xs i ≡ Some x → P i x) → P s y
    → (i : ℕ) (x : A) → slice_get (slice_set xs s y) i ≡ Some x → P i x
element_of P [] s y others this i x h = none_some x h
element_of P (z ∷ xs) zero y others this zero x h = subst (P zero) (some_one y x h) this
element_of P (z ∷ xs) zero y others this (suc i) x h = others (suc i) x (λ e. omega (arith, e)) h
element_of P (z ∷ xs) (suc s) y others this zero x h = others zero x (λ e. omega (arith, e)) h
element_of P (z ∷ xs) (suc s) y others this (suc i) x h =
    element_of (λ k. P (suc k)) xs s y (λ k w n e. others (suc k) w (λ (f : suc k ≡ suc s). n (omega (arith, f))) e)
    this i x h

-- what was there before, put back
pub set_back : {A : Type 0} (xs : List A) (s : ℕ) (x y : A) → slice_get xs s ≡ Some x
    → slice_set (slice_set xs s y) s x ≡ xs
set_back [] s x y h = none_some x h
set_back {A} (z ∷ xs) zero x y h = ap (λ (w : A). w ∷ xs) (sym (some_one z x h))
set_back {A} (z ∷ xs) (suc s) x y h = ap (λ (ws : List A). z ∷ ws) (set_back xs s x y h)

-- what was put at a place is there
pub set_there : {A : Type 0} (xs : List A) (s : ℕ) (x y : A) → slice_get xs s ≡ Some x
    → slice_get (slice_set xs s y) s ≡ Some y
set_there [] s x y h = none_some x h
set_there (z ∷ xs) zero x y h = refl
set_there (z ∷ xs) (suc s) x y h = set_there xs s x y h
