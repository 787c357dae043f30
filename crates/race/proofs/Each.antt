-- What holds of each element of a list at its place.
use Rattle.std.proofs.Common.{Err, IfSome, List, None, Ok, OnOk, Option, Result, Some, [], ap, length, refl}
use Rattle.std.proofs.Common.{slice_get, subst, suc, sym, zero, ℕ, ◌++◌, ◌∷◌, ◌≡◌, ◌≢◌}
use Rattle.std.proofs.Math.ListN.{set}
use Rattle.std.specs.Option.{option_to_list}
use Rattle.plain_lemmas.proofs.Lists.{at_front, at_last}
use Rattle.race.specs.Turns.{MovesAt}

-- with another element at one place
pub each_set : {A : Type 0} (P : ℕ → A → Type 0) (xs : List A) (i : ℕ) (v : A)
    → ((k : ℕ) (a : A) → slice_get xs k ≡ Some a → P k a) → P i v → (k : ℕ) (a : A)
    → slice_get (set xs i v) k ≡ Some a → P k a
each_set P [] i v f new k a g = absurd (let h : None ≡ Some a = g in cc)
each_set P (x ∷ xs) zero v f new zero a g =
    let h : Some v ≡ Some a = g in
    let same : v ≡ a = cc in
    subst (P 0) same new
each_set P (x ∷ xs) zero v f new (suc k) a g = f (suc k) a g
each_set P (x ∷ xs) (suc i) v f new zero a g = f zero a g
each_set P (x ∷ xs) (suc i) v f new (suc k) a g =
    each_set (λ n. P (suc n)) xs i v (λ n b h. f (suc n) b h) new k a g

-- the others are what they were
pub others_set : {A : Type 0} (xs : List A) (i : ℕ) (v : A) (k : ℕ) → k ≢ i
    → slice_get (set xs i v) k ≡ slice_get xs k
others_set [] i v k apart = refl
others_set (x ∷ xs) zero v zero apart = absurd (apart refl)
others_set (x ∷ xs) zero v (suc k) apart = refl
others_set (x ∷ xs) (suc i) v zero apart = refl
others_set (x ∷ xs) (suc i) v (suc k) apart = others_set xs i v k (λ e. apart (ap suc e))

turn_set : {A : Type 0} (moves : A → A → Type 0) (xs : List A) (i : ℕ) (u v : A) → slice_get xs i ≡ Some u
    → moves u v → IfSome (slice_get xs i) (λ a. IfSome (slice_get (set xs i v) i) (moves a))
turn_set moves [] i u v at so = absurd (let h : None ≡ Some u = at in cc)
turn_set moves (x ∷ xs) zero u v at so =
    let h : Some x ≡ Some u = at in
    let same : u ≡ x = cc in
    subst (λ a. moves a v) same so
turn_set moves (x ∷ xs) (suc i) u v at so = turn_set moves xs i u v at so

-- and the one that was set moved on
pub moves_set : {A : Type 0} (moves : A → A → Type 0) (xs : List A) (i : ℕ) (u v : A) → slice_get xs i ≡ Some u
    → moves u v → MovesAt moves i xs (set xs i v)
moves_set moves xs i u v at so = record { turn = turn_set moves xs i u v at so; others = others_set xs i v }

module _ {A : Type 0} (P : ℕ → A → Type 0) where
  -- without the last one
  pub each_rest : (old new : List A) (o : Option A) → old ≡ new ++ option_to_list o
      → ((k : ℕ) (a : A) → slice_get old k ≡ Some a → P k a) → (k : ℕ) (a : A) → slice_get new k ≡ Some a → P k a
  each_rest old new o items h = λ k a g.
      h k a (subst (λ l. slice_get l k ≡ Some a) (sym items) (at_front new (option_to_list o) k a g))

  -- and that one
  pub each_last : (old new : List A) (x : A) → old ≡ new ++ x ∷ []
      → ((k : ℕ) (a : A) → slice_get old k ≡ Some a → P k a) → P (length new) x
  each_last old new x items h =
      h (length new) x (subst (λ l. slice_get l (length new) ≡ Some x) (sym items) (at_last new x))

-- ---- what holds at Ok

pub both_on : {T E X Y Z : Type 0} (r : Result T E) → OnOk r X → OnOk r Y → (X → Y → Z) → OnOk r Z
both_on (Ok t) x y f = f x y
both_on (Err e) x y f = tt

pub always_on : {T E X : Type 0} (r : Result T E) → X → OnOk r X
always_on (Ok t) x = x
always_on (Err e) x = tt
