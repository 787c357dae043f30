-- Of lists.
use Rattle.std.proofs.Common.{Bool, List, None, Some, [], bytes_eq, drop, length, refl, slice_get, subst, suc, true}
use Rattle.std.proofs.Common.{zero, ℕ, ◌++◌, ◌+◌, ◌||◌, ◌∷◌, ◌≡◌}
use Rattle.std.proofs.lemmas.Slice.Eq.{bytes_eq-Decides}
use Rattle.std.specs.List.{list_any}

pub bytes_eq_true : (xs ys : List ℕ) → bytes_eq xs ys ≡ true → xs ≡ ys
bytes_eq_true xs ys h = (bytes_eq-Decides xs ys).0 h

-- what holds of each, and of one more at its place, holds of all
pub snoc_each : {A : Type 0} (P : ℕ → A → Type 0) (xs : List A) (d : A)
    → ((k : ℕ) (a : A) → slice_get xs k ≡ Some a → P k a) → P (length xs) d → (k : ℕ) (a : A)
    → slice_get (xs ++ d ∷ []) k ≡ Some a → P k a
snoc_each P [] d f e zero a g =
    let h : Some d ≡ Some a = g in
    let same : d ≡ a = cc in
    subst (P 0) same e
snoc_each P [] d f e (suc k) a g = absurd (let h : None ≡ Some a = g in cc)
snoc_each P (x ∷ xs) d f e zero a g = f zero a g
snoc_each P (x ∷ xs) d f e (suc k) a g = snoc_each (λ n. P (suc n)) xs d (λ n b h. f (suc n) b h) e k a g

pub at_last : {A : Type 0} (xs : List A) (a : A) → slice_get (xs ++ a ∷ []) (length xs) ≡ Some a
at_last [] a = refl
at_last (x ∷ xs) a = at_last xs a

pub at_front : {A : Type 0} (xs ys : List A) (k : ℕ) (a : A) → slice_get xs k ≡ Some a → slice_get (xs ++ ys) k ≡ Some a
at_front [] ys k a g = absurd (let h : None ≡ Some a = g in cc)
at_front (x ∷ xs) ys zero a g = g
at_front (x ∷ xs) ys (suc k) a g = at_front xs ys k a g

pub get_dropped : {X : Type 0} (n : ℕ) (xs : List X) → slice_get (drop n xs) 0 ≡ slice_get xs n
get_dropped zero [] = refl
get_dropped zero (x ∷ xs) = refl
get_dropped (suc n) [] = refl
get_dropped (suc n) (x ∷ xs) = get_dropped n xs

pub get_drop : {X : Type 0} (n : ℕ) (xs : List X) → slice_get xs n ≡ slice_get (drop n xs) 0
get_drop zero [] = refl
get_drop zero (x ∷ xs) = refl
get_drop (suc n) [] = refl
get_drop (suc n) (x ∷ xs) = get_drop n xs

pub any_same : {X : Type 0} (p q : X → Bool) (xs : List X) → ((x : X) → p x ≡ q x) → list_any p xs ≡ list_any q xs
any_same p q [] h = refl
any_same p q (x ∷ xs) h = (λ i. h x i || any_same p q xs h i)
