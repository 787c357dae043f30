-- Elements of lists, and tests of all and of any.
use Rattle.std.proofs.Common.{Bool, List, [], eq-eqb, eqb-true, false, inl, inr, refl, suc}
use Rattle.std.proofs.Common.{subst, sym, true, zero, ℕ, ◌+◌, ◌++◌, ◌<◌, ◌==◌, ◌∙◌, ◌∷◌, ◌≡◌, ◌⊎◌, arith}
use Rattle.std.proofs.lemmas.Bool.{and_from, and_parts, or_cases, or_left, or_right, true≢false}
use Rattle.std.specs.List.{list_all, list_any, range_with_len}
use Rattle.plain_lemmas.proofs.Bools.{same_tests}
use Rattle.refutation.specs.Orders.{has}

-- x is one of them
abbrev pub In : {S : Type 0} → List S → S → Type 0
In [] x = ⊥
In (s ∷ ss) x = (s ≡ x) ⊎ In ss x

pub in_left : {S : Type 0} (xs ys : List S) (x : S) → In xs x → In (xs ++ ys) x
in_left [] ys x h = absurd h
in_left (y ∷ xs) ys x h = elim h [ inl e ↦ inl e | inr g ↦ inr (in_left xs ys x g) ]

pub in_last : {S : Type 0} (xs : List S) (x : S) → In (xs ++ x ∷ []) x
in_last [] x = inl refl
in_last (y ∷ xs) x = inr (in_last xs x)

-- ---- tests

pub all_in : {S : Type 0} (p : S → Bool) (xs : List S) (x : S) → list_all p xs ≡ true → In xs x → p x ≡ true
all_in p [] x h m = absurd m
all_in p (y ∷ xs) x h m = elim m [
  | inl e ↦ subst (λ z. p z ≡ true) e (and_parts _ _ h).0
  | inr n ↦ all_in p xs x (and_parts _ _ h).1 n
]

pub all_from : {S : Type 0} (p : S → Bool) (xs : List S) → ((x : S) → In xs x → p x ≡ true) → list_all p xs ≡ true
all_from p [] f = refl
all_from p (y ∷ xs) f = and_from _ _ (f y (inl refl)) (all_from p xs (λ x m. f x (inr m)))

pub any_from : {S : Type 0} (p : S → Bool) (xs : List S) (x : S) → In xs x → p x ≡ true → list_any p xs ≡ true
any_from p [] x m h = absurd m
any_from p (y ∷ xs) x m h = elim m [
  | inl e ↦ or_left _ _ (subst (λ z. p z ≡ true) (sym e) h)
  | inr n ↦ or_right _ _ (any_from p xs x n h)
]

pub any_in : {S : Type 0} (p : S → Bool) (xs : List S) → list_any p xs ≡ true → (x : S) × In xs x × (p x ≡ true)
any_in p [] h = absurd (true≢false (sym h))
any_in p (y ∷ xs) h = elim (or_cases _ _ h) [
  | inl e ↦ (y, inl refl, e)
  | inr f ↦ (let m = any_in p xs f in (m.0, inr m.1, m.2))
]

-- the same answer at each element
pub all_alike : {S : Type 0} (p q : S → Bool) (xs : List S) → ((x : S) → In xs x → p x ≡ q x)
    → list_all p xs ≡ list_all q xs
all_alike p q xs f =
    same_tests _ _ (λ h. all_from q xs (λ x m. sym (f x m) ∙ all_in p xs x h m))
    (λ h. all_from p xs (λ x m. f x m ∙ all_in q xs x h m))

pub any_alike : {S : Type 0} (p q : S → Bool) (xs : List S) → ((x : S) → In xs x → p x ≡ q x)
    → list_any p xs ≡ list_any q xs
any_alike p q xs f =
    same_tests _ _ (λ h. let m = any_in p xs h in any_from q xs m.0 m.1 (sym (f m.0 m.1) ∙ m.2))
    (λ h. let m = any_in q xs h in any_from p xs m.0 m.1 (f m.0 m.1 ∙ m.2))

-- ---- numbers

pub in_has : (xs : List ℕ) (n : ℕ) → has xs n ≡ true → In xs n
in_has xs n h = let m = any_in (λ k. k == n) xs h in subst (In xs) (eqb-true m.0 n m.2) m.1

pub has_in : (xs : List ℕ) (n : ℕ) → In xs n → has xs n ≡ true
has_in xs n m = any_from (λ k. k == n) xs n m (eq-eqb n n refl)

-- lists of the same numbers answer a test alike
pub any_of_same : (p : ℕ → Bool) (a b : List ℕ) → ((n : ℕ) → has a n ≡ has b n) → list_any p a ≡ list_any p b
any_of_same p a b f = same_tests _ _ (over a b f) (over b a (λ n. sym (f n)))
  where
    over : (a b : List ℕ) → ((n : ℕ) → has a n ≡ has b n) → list_any p a ≡ true → list_any p b ≡ true
    over a b f h =
        let m = any_in p a h in any_from p b m.0 (in_has b m.0 (sym (f m.0) ∙ has_in a m.0 m.1)) m.2

pub in_range : (a n k : ℕ) → k < n → In (range_with_len a n) (a + k)
in_range a zero k l = absurd (omega arith)
in_range a (suc n) zero l = inl (omega arith)
in_range a (suc n) (suc k) l =
    let e : (a + 1) + k ≡ a + suc k = omega arith in
    inr (subst (In (range_with_len (a + 1) n)) e (in_range (a + 1) n k (omega arith)))
