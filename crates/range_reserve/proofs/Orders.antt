-- Where a number stands in a list that rises by it, and what a change at that place leaves.
use Rattle.std.proofs.Common.{◌≡◌, ℕ, zero, suc, ◌+◌, ◌≤◌, Bool, true, false, cond, ◌&&◌, List, [], ◌∷◌}
use Rattle.std.proofs.Common.{Option, Some, None, refl, sym, ap, ◌∙◌, ◌==◌, arith, inl, inr, eqb-true}
use Rattle.std.proofs.Common.{nat_lt, ltb-true, ltb-false, length, slice_get}
use Rattle.std.specs.List.{filter, find, insert, list_all}
use Rattle.std.specs.List.Sorted.{IsNonDecreasingBy, IsPartitionPoint}
use Rattle.std.proofs.lemmas.Bool.{and_from, and_parts, cases_Bool, cond-false, cond-true}
use Rattle.std.proofs.lemmas.Bool.{or_from, or_parts}
use Rattle.std.proofs.lemmas.Bool.Decides.{nat_tests}
use Rattle.std.proofs.lemmas.List.Sums.{AllPass-from_list_all, prefix_len_is}
use Rattle.range_reserve.specs.declared.held.HeldRange.{HeldRange}
use Rattle.range_reserve.specs.Reserved.{holds_range, insert_held}
use Rattle.range_reserve.specs.Sorted.{IsRisingBy, is_living, living, place_by}

-- ---- all of them

pub all_with : (p q : HeldRange → Bool) → ((x : HeldRange) → p x ≡ true → q x ≡ true) → (xs : List HeldRange)
    → list_all p xs ≡ true
    → list_all q xs ≡ true
all_with p q f [] a = refl
all_with p q f (x ∷ xs) a =
    let k = and_parts (p x) (list_all p xs) a in
    and_from (q x) (list_all q xs) (f x k.0) (all_with p q f xs k.1)

pub all_insert : (q : HeldRange → Bool) (xs : List HeldRange) (i : ℕ) (h : HeldRange) → list_all q xs ≡ true
    → q h ≡ true
    → list_all q (insert xs i h) ≡ true
all_insert q [] zero h a e = and_from (q h) true e refl
all_insert q [] (suc i) h a e = and_from (q h) true e refl
all_insert q (x ∷ xs) zero h a e = and_from (q h) (list_all q (x ∷ xs)) e a
all_insert q (x ∷ xs) (suc i) h a e =
    let k = and_parts (q x) (list_all q xs) a in
    and_from (q x) (list_all q (insert xs i h)) k.0 (all_insert q xs i h k.1 e)

pub all_filter : (p q : HeldRange → Bool) (xs : List HeldRange) → list_all q xs ≡ true → list_all q (filter p xs) ≡ true
all_filter p q [] a = refl
all_filter p q (x ∷ xs) a =
    let k = and_parts (q x) (list_all q xs) a in
    go (p x) k.0 (all_filter p q xs k.1)
  where
    go : (b : Bool) → q x ≡ true → list_all q (filter p xs) ≡ true
        → list_all q (cond b (x ∷ filter p xs) (filter p xs)) ≡ true
    go true e f = and_from (q x) (list_all q (filter p xs)) e f
    go false e f = f

pub all_found : (q : HeldRange → Bool) (t : ℕ) (y : HeldRange) (xs : List HeldRange) → list_all q xs ≡ true
    → find (λ h. h.ticket == t) xs ≡ Some y → q y ≡ true
all_found q t y [] a e = absurd (let f : None ≡ Some y = e in cc)
all_found q t y (x ∷ xs) a e =
    let k = and_parts (q x) (list_all q xs) a in
    elim (cases_Bool (x.ticket == t)) [
      | inl h ↦ let f : Some x ≡ Some y = sym (cond-true (x.ticket == t) (Some x) (find (λ z. z.ticket == t) xs) h)
          ∙ e in let g : x ≡ y = cc in ap q (sym g) ∙ k.0
      | inr h ↦ all_found q t y xs k.1 (sym (cond-false (x.ticket == t) (Some x) (find (λ z. z.ticket == t) xs) h) ∙ e)
    ]

pub found_has : (t : ℕ) (y : HeldRange) (xs : List HeldRange) → find (λ h. h.ticket == t) xs ≡ Some y → y.ticket ≡ t
found_has t y [] e = absurd (let f : None ≡ Some y = e in cc)
found_has t y (x ∷ xs) e = elim (cases_Bool (x.ticket == t)) [
  | inl h ↦ let f : Some x ≡ Some y = sym (cond-true (x.ticket == t) (Some x) (find (λ z. z.ticket == t) xs) h) ∙ e in
      let g : x ≡ y = cc in ap (λ (z : HeldRange). z.ticket) (sym g) ∙ eqb-true x.ticket t h
  | inr h ↦ found_has t y xs (sym (cond-false (x.ticket == t) (Some x) (find (λ z. z.ticket == t) xs) h) ∙ e)
]

pub found_none : (t : ℕ) (xs : List HeldRange) → find (λ h. h.ticket == t) xs ≡ None → holds_range xs t ≡ false
found_none t [] e = refl
found_none t (x ∷ xs) e = elim (cases_Bool (x.ticket == t)) [
  | inl h ↦ absurd (let f : Some x ≡ None = sym (cond-true (x.ticket == t) (Some x) (find (λ z. z.ticket == t) xs) h)
      ∙ e in cc)
  | inr h ↦ or_from (x.ticket == t) (holds_range xs t) h
      (found_none t xs (sym (cond-false (x.ticket == t) (Some x) (find (λ z. z.ticket == t) xs) h) ∙ e))
]

-- ---- a number that rises

pub rising_far : (n : HeldRange → ℕ) (xs : List HeldRange) → IsRisingBy n xs → IsNonDecreasingBy n xs
rising_far n [] r i j d le lt = absurd (omega (arith, lt))
rising_far n (x ∷ xs) r zero zero d le lt = omega arith
rising_far n (x ∷ xs) r zero (suc j) d le lt =
    omega (arith, ltb-true _ _ (AllPass-from_list_all (λ y. nat_lt (n x) (n y)) xs r.0 j d (omega (arith, lt))))
rising_far n (x ∷ xs) r (suc i) zero d le lt = absurd (omega (arith, le))
rising_far n (x ∷ xs) r (suc i) (suc j) d le lt = rising_far n xs r.1 i j d (omega (arith, le)) (omega (arith, lt))

-- where a search says that the numbers stop being below
pub place_from_point : (n : HeldRange → ℕ) (k : ℕ) (xs : List HeldRange) (i : ℕ) → i ≤ length xs
    → IsPartitionPoint (λ h. nat_lt (n h) k ≡ true) (λ h. nat_lt (n h) k ≡ false) xs i → i ≡ place_by n k xs
place_from_point n k [] i le p = omega (arith, le)
place_from_point n k (x ∷ xs) i le p =
    sym (prefix_len_is (λ h. nat_lt (n h) k) (x ∷ xs) i x le (λ j l. p.0 j x (omega arith) l)
    (λ l. p.1 i x (omega arith) l))

pub place_yes : (n : HeldRange → ℕ) (k : ℕ) (x : HeldRange) (xs : List HeldRange) → nat_lt (n x) k ≡ true
    → place_by n k (x ∷ xs) ≡ suc (place_by n k xs)
place_yes n k x xs e = cond-true (nat_lt (n x) k) (1 + place_by n k xs) 0 e ∙ omega arith

pub place_no : (n : HeldRange → ℕ) (k : ℕ) (x : HeldRange) (xs : List HeldRange) → nat_lt (n x) k ≡ false
    → place_by n k (x ∷ xs) ≡ 0
place_no n k x xs e = cond-false (nat_lt (n x) k) (1 + place_by n k xs) 0 e

-- ---- one more, at the place of its ticket

pub insert_in_place : (h : HeldRange) (xs : List HeldRange) → holds_range xs h.ticket ≡ false
    → insert xs (place_by (λ (y : HeldRange). y.ticket) h.ticket xs) h ≡ insert_held h xs
insert_in_place h [] f = refl
insert_in_place h (x ∷ xs) f =
    let k = or_parts (x.ticket == h.ticket) (holds_range xs h.ticket) f in
    elim (cases_Bool (nat_lt x.ticket h.ticket)) [
      | inl e ↦
          ap (λ i. insert (x ∷ xs) i h) (place_yes (λ (y : HeldRange). y.ticket) h.ticket x xs e)
          ∙ ap (λ (ys : List HeldRange). x ∷ ys) (insert_in_place h xs k.1)
          ∙ sym (cond-false (nat_lt h.ticket x.ticket) (h ∷ x ∷ xs) (x ∷ insert_held h xs)
          (grind (arith, nat_tests, e)))
      | inr e ↦
          ap (λ i. insert (x ∷ xs) i h) (place_no (λ (y : HeldRange). y.ticket) h.ticket x xs e)
          ∙ sym (cond-true (nat_lt h.ticket x.ticket) (h ∷ x ∷ xs) (x ∷ insert_held h xs)
          (grind (arith, nat_tests, e, k.0)))
    ]

-- ---- the one at the place of a ticket

and_true : (c : Bool) → (c && true) ≡ c
and_true true = refl
and_true false = refl

and_false : (c : Bool) → (c && false) ≡ false
and_false true = refl
and_false false = refl

-- what is there, if it has the ticket and holds blocks
abbrev pub kept_if : ℕ → Option HeldRange → Option HeldRange
kept_if t None = None
kept_if t (Some y) = cond ((y.ticket == t) && is_living y) (Some y) None

none_found : (n t : ℕ) (xs : List HeldRange) → t ≤ n → list_all (λ (y : HeldRange). nat_lt n y.ticket) xs ≡ true
    → find (λ h. h.ticket == t) (living xs) ≡ None
none_found n t [] l a = refl
none_found n t (x ∷ xs) l a =
    let k = and_parts (nat_lt n x.ticket) (list_all (λ (y : HeldRange). nat_lt n y.ticket) xs) a in
    go (is_living x) (grind (arith, nat_tests, l, k.0)) (none_found n t xs l k.1)
  where
    go : (b : Bool) → (x.ticket == t) ≡ false → find (λ h. h.ticket == t) (living xs) ≡ None
        → find (λ h. h.ticket == t) (cond b (x ∷ living xs) (living xs)) ≡ None
    go true e later = cond-false (x.ticket == t) (Some x) (find (λ h. h.ticket == t) (living xs)) e ∙ later
    go false e later = later

pub found_in_place : (t : ℕ) (xs : List HeldRange) → IsRisingBy (λ (h : HeldRange). h.ticket) xs
    → find (λ h. h.ticket == t) (living xs) ≡ kept_if t (slice_get xs (place_by (λ (h : HeldRange). h.ticket) t xs))
found_in_place t [] r = refl
found_in_place t (x ∷ xs) r = elim (cases_Bool (nat_lt x.ticket t)) [
  | inl e ↦
      past (is_living x) (grind (arith, nat_tests, e))
      ∙ found_in_place t xs r.1
      ∙ ap (λ i. kept_if t (slice_get (x ∷ xs) i)) (sym (place_yes (λ (h : HeldRange). h.ticket) t x xs e))
  | inr e ↦ first (is_living x) e
      ∙ ap (λ i. kept_if t (slice_get (x ∷ xs) i)) (sym (place_no (λ (h : HeldRange). h.ticket) t x xs e))
]
  where
    rest : Option HeldRange
    rest = find (λ h. h.ticket == t) (living xs)

    past : (b : Bool) → (x.ticket == t) ≡ false
        → find (λ h. h.ticket == t) (cond b (x ∷ living xs) (living xs)) ≡ rest
    past true e = cond-false (x.ticket == t) (Some x) rest e
    past false e = refl

    none : nat_lt x.ticket t ≡ false → rest ≡ None
    none e = none_found x.ticket t xs (ltb-false x.ticket t e) r.0

    first : (b : Bool) → nat_lt x.ticket t ≡ false
        → find (λ h. h.ticket == t) (cond b (x ∷ living xs) (living xs)) ≡ cond ((x.ticket == t) && b) (Some x) None
    first true e = ap (λ (o : Option HeldRange). cond (x.ticket == t) (Some x) o) (none e)
        ∙ sym (ap (λ (c : Bool). cond c (Some x) None) (and_true (x.ticket == t)))
    first false e = none e ∙ sym (ap (λ (c : Bool). cond c (Some x) None) (and_false (x.ticket == t)))

-- a test of what is there finds what the ticket holds
pub found_at : (t : ℕ) (xs : List HeldRange) (i : ℕ) → IsRisingBy (λ (h : HeldRange). h.ticket) xs
    → i ≡ place_by (λ (h : HeldRange). h.ticket) t xs
    → find (λ h. h.ticket == t) (living xs) ≡ kept_if t (slice_get xs i)
found_at t xs i r at = found_in_place t xs r ∙ ap (λ j. kept_if t (slice_get xs j)) (sym at)
