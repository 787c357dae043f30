-- What is held, by rising ticket: the same ranges in one order.
use Rattle.std.proofs.Common.{◌≡◌, ℕ, suc, ◌≤◌, Bool, true, false, cond, ◌||◌, List, [], ◌∷◌, Option, Some, refl, sym}
use Rattle.std.proofs.Common.{ap, ◌∙◌, ◌==◌, arith, inl, inr, eqb-true, eq-eqb, ne_eqb, nat_lt, nat_le, lt-ltb}
use Rattle.std.proofs.Common.{ltb-true, ltb-false, le-leb, leb-true, true≢false}
use Rattle.std.specs.List.{filter, find, list_any}
use Rattle.std.proofs.lemmas.Bool.{and_from, and_parts, cases_Bool, cond-false, cond-true, or_from, or_parts}
use Rattle.nvme_model.specs.Open.{conflict}
use Rattle.range_reserve.specs.declared.held.HeldRange.{HeldRange}
use Rattle.range_reserve.specs.Reserved.{AreApart, AreHoldersRising, by_ticket, has_conflict, holds_range, insert_held}
use Rattle.range_reserve.specs.Reserved.{none_below}
use Rattle.nvme_model.specs.Array.{IsRange}
use Rattle.range_reserve.proofs.Pairs.{conflict-turned}

-- ---- which are there

or_swapped : (a b c : Bool) → (a || (b || c)) ≡ (b || (a || c))
or_swapped true true c = refl
or_swapped true false c = refl
or_swapped false true c = refl
or_swapped false false c = refl

pub list_any-insert : (p : HeldRange → Bool) (h : HeldRange) (xs : List HeldRange)
    → list_any p (insert_held h xs) ≡ (p h || list_any p xs)
list_any-insert p h [] = refl
list_any-insert p h (x ∷ xs) = go (nat_lt h.ticket x.ticket) (list_any-insert p h xs)
  where
    go : (b : Bool) → list_any p (insert_held h xs) ≡ (p h || list_any p xs)
        → list_any p (cond b (h ∷ x ∷ xs) (x ∷ insert_held h xs)) ≡ (p h || (p x || list_any p xs))
    go true e = refl
    go false e = ap (λ b. p x || b) e ∙ or_swapped (p x) (p h) (list_any p xs)

pub list_any-by_ticket : (p : HeldRange → Bool) (xs : List HeldRange) → list_any p (by_ticket xs) ≡ list_any p xs
list_any-by_ticket p [] = refl
list_any-by_ticket p (h ∷ hs) = list_any-insert p h (by_ticket hs) ∙ ap (λ b. p h || b) (list_any-by_ticket p hs)

-- ---- the tickets rise

none_below-less : (m n : ℕ) (xs : List HeldRange) → m ≤ n → none_below n xs ≡ true → none_below m xs ≡ true
none_below-less m n [] l a = refl
none_below-less m n (x ∷ xs) l a =
    let k = and_parts (nat_le n x.ticket) (none_below n xs) a in
    and_from (nat_le m x.ticket) (none_below m xs) (le-leb m x.ticket (omega (arith, l, leb-true n x.ticket k.0)))
    (none_below-less m n xs l k.1)

none_below-insert : (n : ℕ) (h : HeldRange) (xs : List HeldRange) → nat_le n h.ticket ≡ true → none_below n xs ≡ true
    → none_below n (insert_held h xs) ≡ true
none_below-insert n h [] e a = and_from (nat_le n h.ticket) true e refl
none_below-insert n h (x ∷ xs) e a =
    let k = and_parts (nat_le n x.ticket) (none_below n xs) a in
    go (nat_lt h.ticket x.ticket) k.0 (none_below-insert n h xs e k.1)
  where
    go : (b : Bool) → nat_le n x.ticket ≡ true → none_below n (insert_held h xs) ≡ true
        → none_below n (cond b (h ∷ x ∷ xs) (x ∷ insert_held h xs)) ≡ true
    go true f later = and_from (nat_le n h.ticket) (none_below n (x ∷ xs)) e a
    go false f later = and_from (nat_le n x.ticket) (none_below n (insert_held h xs)) f later

-- all of x and those behind it are above a lower ticket
above : (n : ℕ) (x : HeldRange) (xs : List HeldRange) → n ≤ x.ticket → AreHoldersRising (x ∷ xs)
    → none_below n (x ∷ xs) ≡ true
above n x xs l r = and_from (nat_le n x.ticket) (none_below n xs) (le-leb n x.ticket l)
    (none_below-less n x.ticket xs l r.0)

rising_insert : (h : HeldRange) (xs : List HeldRange) → AreHoldersRising xs → AreHoldersRising (insert_held h xs)
rising_insert h [] r = (refl, tt)
rising_insert h (x ∷ xs) r = go (nat_lt h.ticket x.ticket) refl (rising_insert h xs r.1)
  where
    go : (b : Bool) → nat_lt h.ticket x.ticket ≡ b → AreHoldersRising (insert_held h xs)
        → AreHoldersRising (cond b (h ∷ x ∷ xs) (x ∷ insert_held h xs))
    go true e later = (above h.ticket x xs (omega (arith, ltb-true h.ticket x.ticket e)) r, r)
    go false e later = (
      none_below-insert x.ticket h xs (le-leb x.ticket h.ticket (ltb-false h.ticket x.ticket e)) r.0,
      later,
    )

pub rising_by_ticket : (xs : List HeldRange) → AreHoldersRising (by_ticket xs)
rising_by_ticket [] = tt
rising_by_ticket (h ∷ hs) = rising_insert h (by_ticket hs) (rising_by_ticket hs)

-- ---- what a filter leaves

insert_first : (h : HeldRange) (xs : List HeldRange) → none_below (suc h.ticket) xs ≡ true → insert_held h xs ≡ h ∷ xs
insert_first h [] a = refl
insert_first h (x ∷ xs) a =
    cond-true (nat_lt h.ticket x.ticket) (h ∷ x ∷ xs) (x ∷ insert_held h xs)
    (lt-ltb h.ticket x.ticket
    (leb-true (suc h.ticket) x.ticket
    (and_parts (nat_le (suc h.ticket) x.ticket) (none_below (suc h.ticket) xs) a).0))

none_below-filter : (q : HeldRange → Bool) (n : ℕ) (xs : List HeldRange) → none_below n xs ≡ true
    → none_below n (filter q xs) ≡ true
none_below-filter q n [] a = refl
none_below-filter q n (x ∷ xs) a =
    let k = and_parts (nat_le n x.ticket) (none_below n xs) a in
    go (q x) k.0 (none_below-filter q n xs k.1)
  where
    go : (b : Bool) → nat_le n x.ticket ≡ true → none_below n (filter q xs) ≡ true
        → none_below n (cond b (x ∷ filter q xs) (filter q xs)) ≡ true
    go true e f = and_from (nat_le n x.ticket) (none_below n (filter q xs)) e f
    go false e f = f

filter-insert : (q : HeldRange → Bool) (h : HeldRange) (xs : List HeldRange) → AreHoldersRising xs
    → filter q (insert_held h xs) ≡ cond (q h) (insert_held h (filter q xs)) (filter q xs)
filter-insert q h [] r = refl
filter-insert q h (x ∷ xs) r = go (nat_lt h.ticket x.ticket) refl (filter-insert q h xs r.1)
  where
    rest : List HeldRange
    rest = filter q xs

    past : nat_lt h.ticket x.ticket ≡ false → (a b : Bool)
        → cond a (x ∷ cond b (insert_held h rest) rest) (cond b (insert_held h rest) rest)
        ≡ cond b (insert_held h (cond a (x ∷ rest) rest)) (cond a (x ∷ rest) rest)
    past e true true = sym (cond-false (nat_lt h.ticket x.ticket) (h ∷ x ∷ rest) (x ∷ insert_held h rest) e)
    past e true false = refl
    past e false true = refl
    past e false false = refl

    go : (b : Bool) → nat_lt h.ticket x.ticket ≡ b → filter q (insert_held h xs) ≡ cond (q h) (insert_held h rest) rest
        → filter q (cond b (h ∷ x ∷ xs) (x ∷ insert_held h xs))
        ≡ cond (q h) (insert_held h (filter q (x ∷ xs))) (filter q (x ∷ xs))
    go true e later =
        ap (λ (ys : List HeldRange). cond (q h) ys (filter q (x ∷ xs)))
        (sym (insert_first h (filter q (x ∷ xs))
        (none_below-filter q (suc h.ticket) (x ∷ xs)
        (above (suc h.ticket) x xs (omega (arith, ltb-true h.ticket x.ticket e)) r))))
    go false e later = ap (λ (ys : List HeldRange). cond (q x) (x ∷ ys) ys) later ∙ past e (q x) (q h)

pub filter-by_ticket : (q : HeldRange → Bool) (xs : List HeldRange) → filter q (by_ticket xs) ≡ by_ticket (filter q xs)
filter-by_ticket q [] = refl
filter-by_ticket q (h ∷ hs) =
    filter-insert q h (by_ticket hs) (rising_by_ticket hs)
    ∙ ap (λ (ys : List HeldRange). cond (q h) (insert_held h ys) ys) (filter-by_ticket q hs) ∙ within (q h)
  where
    within : (b : Bool) → cond b (insert_held h (by_ticket (filter q hs))) (by_ticket (filter q hs))
        ≡ by_ticket (cond b (h ∷ filter q hs) (filter q hs))
    within true = refl
    within false = refl

-- ---- each ticket holds one

pub different : (x h t : ℕ) → (x == h) ≡ false → x ≡ t → (h == t) ≡ false
different x h t n e = ne_eqb h t (λ (d : h ≡ t). absurd (true≢false (sym (eq-eqb x h (e ∙ sym d)) ∙ n)))

find-insert : (t : ℕ) (h : HeldRange) (xs : List HeldRange) → holds_range xs h.ticket ≡ false
    → find (λ y. y.ticket == t) (insert_held h xs) ≡ cond (h.ticket == t) (Some h) (find (λ y. y.ticket == t) xs)
find-insert t h [] n = refl
find-insert t h (x ∷ xs) n =
    let k = or_parts (x.ticket == h.ticket) (holds_range xs h.ticket) n in
    go (nat_lt h.ticket x.ticket) k.0 (find-insert t h xs k.1)
  where
    found : Option HeldRange
    found = find (λ y. y.ticket == t) xs

    swapped : (x.ticket == h.ticket) ≡ false
        → cond (x.ticket == t) (Some x) (cond (h.ticket == t) (Some h) found)
        ≡ cond (h.ticket == t) (Some h) (cond (x.ticket == t) (Some x) found)
    swapped d = elim (cases_Bool (x.ticket == t)) [
      | inl e ↦
          cond-true (x.ticket == t) (Some x) (cond (h.ticket == t) (Some h) found) e
          ∙ sym (cond-true (x.ticket == t) (Some x) found e)
          ∙ sym (cond-false (h.ticket == t) (Some h) (cond (x.ticket == t) (Some x) found)
          (different x.ticket h.ticket t d (eqb-true x.ticket t e)))
      | inr e ↦
          cond-false (x.ticket == t) (Some x) (cond (h.ticket == t) (Some h) found) e
          ∙ ap (λ (o : Option HeldRange). cond (h.ticket == t) (Some h) o)
          (sym (cond-false (x.ticket == t) (Some x) found e))
    ]

    go : (b : Bool) → (x.ticket == h.ticket) ≡ false
        → find (λ y. y.ticket == t) (insert_held h xs) ≡ cond (h.ticket == t) (Some h) found
        → find (λ y. y.ticket == t) (cond b (h ∷ x ∷ xs) (x ∷ insert_held h xs))
        ≡ cond (h.ticket == t) (Some h) (cond (x.ticket == t) (Some x) found)
    go true d e = refl
    go false d e = ap (λ (o : Option HeldRange). cond (x.ticket == t) (Some x) o) e ∙ swapped d

pub find-by_ticket : (t : ℕ) (xs : List HeldRange) → AreApart xs
    → find (λ y. y.ticket == t) (by_ticket xs) ≡ find (λ y. y.ticket == t) xs
find-by_ticket t [] a = refl
find-by_ticket t (h ∷ hs) a =
    find-insert t h (by_ticket hs) (list_any-by_ticket (λ y. y.ticket == h.ticket) hs ∙ a.1)
    ∙ ap (λ (o : Option HeldRange). cond (h.ticket == t) (Some h) o) (find-by_ticket t hs a.3)

-- ---- they are apart

apart_insert : (h : HeldRange) (xs : List HeldRange) → IsRange h.range → holds_range xs h.ticket ≡ false
    → has_conflict xs h.range h.mode ≡ false → AreApart xs → AreApart (insert_held h xs)
apart_insert h [] r t c a = (r, t, c, a)
apart_insert h (x ∷ xs) r t c a =
    let k = or_parts (x.ticket == h.ticket) (holds_range xs h.ticket) t in
    let l = or_parts (conflict h.range h.mode x.range x.mode) (has_conflict xs h.range h.mode) c in
    go (nat_lt h.ticket x.ticket) k.0 l.0 (apart_insert h xs r k.1 l.1 a.3)
  where
    go : (b : Bool) → (x.ticket == h.ticket) ≡ false → conflict h.range h.mode x.range x.mode ≡ false
        → AreApart (insert_held h xs)
        → AreApart (cond b (h ∷ x ∷ xs) (x ∷ insert_held h xs))
    go true d f later = (r, t, c, a)
    go false d f later = (
      a.0,
      list_any-insert (λ y. y.ticket == x.ticket) h xs
          ∙ or_from (h.ticket == x.ticket) (holds_range xs x.ticket) (different x.ticket h.ticket x.ticket d refl) a.1,
      list_any-insert (λ y. conflict x.range x.mode y.range y.mode) h xs
          ∙ or_from (conflict x.range x.mode h.range h.mode) (has_conflict xs x.range x.mode)
          (conflict-turned x.range x.mode h.range h.mode ∙ f) a.2,
      later,
    )

pub apart_by_ticket : (xs : List HeldRange) → AreApart xs → AreApart (by_ticket xs)
apart_by_ticket [] a = tt
apart_by_ticket (h ∷ hs) a =
    apart_insert h (by_ticket hs) a.0 (list_any-by_ticket (λ y. y.ticket == h.ticket) hs ∙ a.1)
    (list_any-by_ticket (λ y. conflict h.range h.mode y.range y.mode) hs ∙ a.2) (apart_by_ticket hs a.3)
