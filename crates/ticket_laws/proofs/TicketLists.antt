-- Lists of numbers of tickets, and lists by what holds of each element.
use Rattle.std.proofs.Common.{◌≡◌, ℕ, zero, suc, ◌≤◌, Bool, true, false, ◌&&◌, ◌||◌, cond, eqb, List, [], ◌∷◌}
use Rattle.std.proofs.Common.{map, refl, sym, ap, ◌∙◌, None, inl, inr, arith}
use Rattle.std.specs.List.{filter, find, list_any}
use Rattle.std.proofs.lemmas.Bool.{cases_Bool, cond-false, cond-true, or_parts}
use Rattle.ticket_laws.specs.Standing.{rising}
use Rattle.nvme_model.proofs.Lists.{Each, each_map, each_append}

-- a list has this number
abbrev pub has : ℕ → List ℕ → Bool
has t xs = list_any (λ s. eqb s t) xs

-- no number stands twice
abbrev pub IsApart : List ℕ → Type 0
IsApart [] = Unit {0}
IsApart (x ∷ xs) = (has x xs ≡ false) × IsApart xs

-- filters whose tests agree on each element
pub filter_each : {X : Type 0} (p q : X → Bool) (xs : List X) → Each (λ x. p x ≡ q x) xs → filter p xs ≡ filter q xs
filter_each p q [] h = refl
filter_each p q (x ∷ xs) h = (λ i. cond (h.0 i) (x ∷ filter_each p q xs h.1 i) (filter_each p q xs h.1 i))

-- each number from 1 to n is n at most
pub rising_each : (n : ℕ) → Each (λ t. t ≤ n) (rising n)
rising_each zero = tt
rising_each (suc n) = each_append (λ t. t ≤ suc n) (rising n) (suc n ∷ [])
    (each_map (λ t. t ≤ n) (λ t. t ≤ suc n) (λ t l. omega (arith, l)) (rising n) (rising_each n)) (omega arith, tt)

-- two filters one after the other
pub filter_twice : {X : Type 0} (p q : X → Bool) (xs : List X) → filter q (filter p xs) ≡ filter (λ x. p x && q x) xs
filter_twice p q [] = refl
filter_twice p q (x ∷ xs) = by (p x) ∙ ap (λ ys. cond (p x && q x) (x ∷ ys) ys) (filter_twice p q xs)
  where
    by : (b : Bool) → filter q (cond b (x ∷ filter p xs) (filter p xs))
        ≡ cond (b && q x) (x ∷ filter q (filter p xs)) (filter q (filter p xs))
    by true = refl
    by false = refl

-- a test of the elements that f makes
pub list_any-map : {X Y : Type 0} (f : X → Y) (p : Y → Bool) (xs : List X)
    → list_any p (map f xs) ≡ list_any (λ x. p (f x)) xs
list_any-map f p [] = refl
list_any-map f p (x ∷ xs) = ap (λ b. p (f x) || b) (list_any-map f p xs)

-- a test that no element meets, and none of those that a filter lets through
pub any_filtered : {X : Type 0} (t p : X → Bool) (xs : List X) → list_any t xs ≡ false
    → list_any t (filter p xs) ≡ false
any_filtered t p [] e = refl
any_filtered t p (x ∷ xs) e =
    let both = or_parts (t x) (list_any t xs) e in
    by (p x) both.0 (any_filtered t p xs both.1)
  where
    by : (b : Bool) → t x ≡ false → list_any t (filter p xs) ≡ false
        → list_any t (cond b (x ∷ filter p xs) (filter p xs)) ≡ false
    by true f g = (λ i. f i || g i)
    by false f g = g

-- a filter that leaves out nothing that is looked for
pub find_filter : {X : Type 0} (t p : X → Bool) (xs : List X) → Each (λ x. t x ≡ true → p x ≡ true) xs
    → find t (filter p xs) ≡ find t xs
find_filter t p [] h = refl
find_filter t p (x ∷ xs) h = elim (cases_Bool (t x)) [
  | inl e ↦ ap (λ b. find t (cond b (x ∷ filter p xs) (filter p xs))) (h.0 e) ∙ cond-true (t x) _ _ e
      ∙ sym (cond-true (t x) _ _ e)
  | inr e ↦ by e (p x) ∙ find_filter t p xs h.1 ∙ sym (cond-false (t x) _ _ e)
]
  where
    by : t x ≡ false → (b : Bool) → find t (cond b (x ∷ filter p xs) (filter p xs)) ≡ find t (filter p xs)
    by e true = cond-false (t x) _ _ e
    by e false = refl

-- nothing is found where no element passes
pub find_none : {X : Type 0} (t : X → Bool) (xs : List X) → list_any t xs ≡ false → find t xs ≡ None
find_none t [] e = refl
find_none t (x ∷ xs) e = let both = or_parts (t x) (list_any t xs) e in
    cond-false (t x) _ _ both.0 ∙ find_none t xs both.1
