-- What is kept by start: what a grant adds, and the starts that a search for conflicts leaves out.
use Rattle.std.proofs.Common.{◌≡◌, ℕ, zero, suc, ◌+◌, ◌-◌, ◌≤◌, ◌<◌, Bool, true, false, cond, ◌||◌, List, [], ◌∷◌, refl}
use Rattle.std.proofs.Common.{sym, ap, ◌∙◌, ◌==◌, arith, inl, inr, nat_lt, nat_le, lt-ltb, le-ltb, ltb-true, ltb-false}
use Rattle.std.proofs.Common.{leb-true, drop}
use Rattle.std.specs.List.{insert, list_all, list_any, take_while}
use Rattle.std.proofs.lemmas.Bool.{and_left, and_parts, and_right, cases_Bool, cond-false, cond-true, or_from, or_parts}
use Rattle.std.proofs.lemmas.Bool.Decides.{nat_tests}
use Rattle.std.proofs.lemmas.List.Sorted.{IsPermutation-insert, list_any-IsPermutation}
use Rattle.std.proofs.lemmas.List.Sums.{take_while-cons}
use Rattle.nvme_model.specs.Array.{IsRange, overlap}
use Rattle.nvme_model.specs.Open.{conflict}
use Rattle.nvme_model.specs.declared.array.Mode.{Mode}
use Rattle.nvme_model.specs.declared.array.Range.{Range}
use Rattle.range_reserve.specs.declared.held.HeldRange.{HeldRange}
use Rattle.range_reserve.specs.Reserved.{AreApart, by_ticket, has_conflict, holds_range, insert_held}
use Rattle.range_reserve.specs.Sorted.{IsRisingBy, holder_fits, has_conflict_before_end, held_key, place_by, start_key}
use Rattle.range_reserve.specs.Sorted.{starts_before_end}
use Rattle.range_reserve.proofs.Pairs.{conflict-turned}
use Rattle.range_reserve.proofs.Orders.{place_no, place_yes}
use Rattle.range_reserve.proofs.Rising.{different}

-- ---- one more, at any place

list_any-insert_at : (p : HeldRange → Bool) (xs : List HeldRange) (i : ℕ) (h : HeldRange)
    → list_any p (insert xs i h) ≡ (p h || list_any p xs)
list_any-insert_at p xs i h = sym (list_any-IsPermutation p (h ∷ xs) (insert xs i h) (IsPermutation-insert xs i h))

pub apart_insert_at : (h : HeldRange) (xs : List HeldRange) (i : ℕ) → IsRange h.range → holds_range xs h.ticket ≡ false
    → has_conflict xs h.range h.mode ≡ false
    → AreApart xs → AreApart (insert xs i h)
apart_insert_at h [] zero r t c a = (r, t, c, a)
apart_insert_at h [] (suc i) r t c a = (r, t, c, a)
apart_insert_at h (x ∷ xs) zero r t c a = (r, t, c, a)
apart_insert_at h (x ∷ xs) (suc i) r t c a =
    let k = or_parts (x.ticket == h.ticket) (holds_range xs h.ticket) t in
    let l = or_parts (conflict h.range h.mode x.range x.mode) (has_conflict xs h.range h.mode) c in (
      a.0,
      list_any-insert_at (λ y. y.ticket == x.ticket) xs i h
          ∙ or_from (h.ticket == x.ticket) (holds_range xs x.ticket)
          (different x.ticket h.ticket x.ticket k.0 refl) a.1,
      list_any-insert_at (λ y. conflict x.range x.mode y.range y.mode) xs i h
          ∙ or_from (conflict x.range x.mode h.range h.mode) (has_conflict xs x.range x.mode)
          (conflict-turned x.range x.mode h.range h.mode ∙ l.0) a.2,
      apart_insert_at h xs i r k.1 l.1 a.3,
    )

-- two inserts by ticket, the lower first or last
lower_first : (a b : HeldRange) (xs : List HeldRange) → a.ticket < b.ticket
    → insert_held a (insert_held b xs) ≡ insert_held b (insert_held a xs)
lower_first a b [] l =
    cond-true (nat_lt a.ticket b.ticket) (a ∷ b ∷ []) (b ∷ a ∷ []) (lt-ltb a.ticket b.ticket l)
    ∙ sym (cond-false (nat_lt b.ticket a.ticket) (b ∷ a ∷ []) (a ∷ b ∷ [])
    (le-ltb b.ticket a.ticket (omega (arith, l))))
lower_first a b (x ∷ xs) l = go (nat_lt a.ticket x.ticket) (nat_lt b.ticket x.ticket) refl refl (lower_first a b xs l)
  where
    low : nat_lt a.ticket b.ticket ≡ true
    low = lt-ltb a.ticket b.ticket l

    high : nat_lt b.ticket a.ticket ≡ false
    high = le-ltb b.ticket a.ticket (omega (arith, l))

    go : (c d : Bool) → nat_lt a.ticket x.ticket ≡ c → nat_lt b.ticket x.ticket ≡ d
        → insert_held a (insert_held b xs) ≡ insert_held b (insert_held a xs)
        → insert_held a (cond d (b ∷ x ∷ xs) (x ∷ insert_held b xs))
        ≡ insert_held b (cond c (a ∷ x ∷ xs) (x ∷ insert_held a xs))
    go true true e f later = cond-true _ _ _ low
        ∙ sym (cond-false _ _ _ high ∙ ap (λ (ys : List HeldRange). a ∷ ys) (cond-true _ _ _ f))
    go true false e f later = cond-true _ _ _ e
        ∙ sym (cond-false _ _ _ high ∙ ap (λ (ys : List HeldRange). a ∷ ys) (cond-false _ _ _ f))
    go false true e f later = absurd (omega (arith, l, ltb-false a.ticket x.ticket e, ltb-true b.ticket x.ticket f))
    go false false e f later = cond-false _ _ _ e ∙ ap (λ (ys : List HeldRange). x ∷ ys) later
        ∙ sym (cond-false _ _ _ f)

inserts_turned : (a b : HeldRange) (xs : List HeldRange) → (a.ticket == b.ticket) ≡ false
    → insert_held a (insert_held b xs) ≡ insert_held b (insert_held a xs)
inserts_turned a b xs n = elim (cases_Bool (nat_lt a.ticket b.ticket)) [
  | inl e ↦ lower_first a b xs (ltb-true a.ticket b.ticket e)
  | inr e ↦ sym (lower_first b a xs (ltb-true b.ticket a.ticket (grind (arith, nat_tests, e, n))))
]

pub by_ticket-insert_at : (h : HeldRange) (xs : List HeldRange) (i : ℕ) → holds_range xs h.ticket ≡ false
    → by_ticket (insert xs i h) ≡ insert_held h (by_ticket xs)
by_ticket-insert_at h [] zero t = refl
by_ticket-insert_at h [] (suc i) t = refl
by_ticket-insert_at h (x ∷ xs) zero t = refl
by_ticket-insert_at h (x ∷ xs) (suc i) t =
    let k = or_parts (x.ticket == h.ticket) (holds_range xs h.ticket) t in
    ap (insert_held x) (by_ticket-insert_at h xs i k.1) ∙ inserts_turned x h (by_ticket xs) k.0

-- those of one start and ticket have one ticket
pub fits_same : (longest : ℕ) (x y : HeldRange) → holder_fits longest x ≡ true → holder_fits longest y ≡ true
    → held_key x ≡ held_key y
    → x.ticket ≡ y.ticket
fits_same longest x y f g e =
    let j = and_parts (nat_le x.range.blocks longest) (nat_lt x.ticket 18446744073709551616) f in
    let k = and_parts (nat_le y.range.blocks longest) (nat_lt y.ticket 18446744073709551616) g in
    omega (arith, e, ltb-true x.ticket 18446744073709551616 j.1, ltb-true y.ticket 18446744073709551616 k.1)

-- ---- what can't conflict

-- it ends before the range starts
before : (r : Range) (m : Mode) (h : HeldRange) → h.range.slba + h.range.blocks ≤ r.slba
    → conflict r m h.range h.mode ≡ false
before r m h l = and_left (overlap r h.range) _
    (and_right _ _ (and_left (nat_lt r.slba (h.range.slba + h.range.blocks)) _
    (le-ltb r.slba (h.range.slba + h.range.blocks) l)))

-- it starts at the end of the range or behind it
behind : (r : Range) (m : Mode) (h : HeldRange) → r.slba + r.blocks ≤ h.range.slba → conflict r m h.range h.mode ≡ false
behind r m h l = and_left (overlap r h.range) _
    (and_right _ _ (and_right _ (nat_lt h.range.slba (r.slba + r.blocks)) (le-ltb h.range.slba (r.slba + r.blocks) l)))

none_behind : (longest k : ℕ) (r : Range) (m : Mode) (xs : List HeldRange) → start_key (r.slba + r.blocks) 0 ≤ k
    → list_all (λ y. nat_lt k (held_key y)) xs ≡ true → list_all (holder_fits longest) xs ≡ true
    → has_conflict xs r m ≡ false
none_behind longest k r m [] l a f = refl
none_behind longest k r m (x ∷ xs) l a f =
    let b = and_parts (nat_lt k (held_key x)) (list_all (λ y. nat_lt k (held_key y)) xs) a in
    let g = and_parts (holder_fits longest x) (list_all (holder_fits longest) xs) f in
    let j = and_parts (nat_le x.range.blocks longest) (nat_lt x.ticket 18446744073709551616) g.0 in
    or_from _ _
    (behind r m x (omega (arith, l, ltb-true k (held_key x) b.0, ltb-true x.ticket 18446744073709551616 j.1)))
    (none_behind longest k r m xs l b.1 g.1)

up_to_end : (longest : ℕ) (r : Range) (m : Mode) (xs : List HeldRange) → IsRisingBy held_key xs
    → list_all (holder_fits longest) xs ≡ true
    → has_conflict_before_end xs r m ≡ has_conflict xs r m
up_to_end longest r m [] s f = refl
up_to_end longest r m (x ∷ xs) s f =
    let g = and_parts (holder_fits longest x) (list_all (holder_fits longest) xs) f in
    ap (λ ys. has_conflict ys r m) (take_while-cons (starts_before_end r) x xs)
    ∙ go (starts_before_end r x) refl (up_to_end longest r m xs s.1 g.1) g.1
  where
    go : (b : Bool) → starts_before_end r x ≡ b → has_conflict_before_end xs r m ≡ has_conflict xs r m
        → list_all (holder_fits longest) xs ≡ true
        → has_conflict (cond b (x ∷ take_while (starts_before_end r) xs) []) r m ≡ has_conflict (x ∷ xs) r m
    go true e later g = ap (λ b. conflict r m x.range x.mode || b) later
    go false e later g =
        let past = ltb-false x.range.slba (r.slba + r.blocks) e in
        sym (or_from _ _ (behind r m x past) (none_behind longest (held_key x) r m xs (omega (arith, past)) s.0 g))

pub conflict_in_window : (longest : ℕ) (r : Range) (m : Mode) (xs : List HeldRange) → IsRisingBy held_key xs
    → list_all (holder_fits longest) xs ≡ true
    → has_conflict_before_end (drop (place_by held_key (start_key (r.slba - longest) 0) xs) xs) r m
    ≡ has_conflict xs r m
conflict_in_window longest r m [] s f = refl
conflict_in_window longest r m (x ∷ xs) s f =
    let g = and_parts (holder_fits longest x) (list_all (holder_fits longest) xs) f in
    let j = and_parts (nat_le x.range.blocks longest) (nat_lt x.ticket 18446744073709551616) g.0 in
    let from = start_key (r.slba - longest) 0 in
    elim (cases_Bool (nat_lt (held_key x) from)) [
      | inl e ↦
          ap (λ i. has_conflict_before_end (drop i (x ∷ xs)) r m) (place_yes held_key from x xs e)
          ∙ conflict_in_window longest r m xs s.1 g.1
          ∙ ap (λ b. b || has_conflict xs r m)
          (sym (before r m x (omega (arith, leb-true x.range.blocks longest j.0, ltb-true (held_key x) from e))))
      | inr e ↦ ap (λ i. has_conflict_before_end (drop i (x ∷ xs)) r m) (place_no held_key from x xs e)
          ∙ up_to_end longest r m (x ∷ xs) s f
    ]
