-- The same ranges by ticket and by start.
use Rattle.std.proofs.Common.{◌≡◌, ℕ, suc, ◌≤◌, ◌<◌, Bool, true, false, cond, not, List, [], ◌∷◌, Some, None, refl}
use Rattle.std.proofs.Common.{sym, ap, subst, ◌∙◌, ◌==◌, arith, inl, inr, eq-eqb, eqb-true, ne_eqb, ◌-◌, le-leb}
use Rattle.std.proofs.Common.{leb-true, lt-ltb}
use Rattle.std.proofs.Common.{ltb-true, length, drop, nat_le, nat_lt, true≢false}
use Rattle.std.specs.List.{find, list_all, list_any}
use Rattle.std.specs.Prelude.{slice_set}
use Rattle.std.proofs.lemmas.Bool.{and_from, and_parts, cases_Bool, cond-false, cond-true, not_from_false}
use Rattle.std.proofs.lemmas.Bool.{not_from_true}
use Rattle.std.proofs.lemmas.Bool.{or_from, or_parts}
use Rattle.nvme_model.specs.Open.{conflict}
use Rattle.nvme_model.specs.declared.array.Mode.{Mode}
use Rattle.nvme_model.specs.declared.array.Range.{Range}
use Rattle.range_reserve.specs.declared.held.HeldRange.{HeldRange}
use Rattle.range_reserve.specs.Reserved.{AreApart, AreHoldersRising, by_ticket, has_conflict, holds_range, held_beside}
use Rattle.range_reserve.specs.Reserved.{insert_held}
use Rattle.nvme_model.specs.Array.{IsRange}
use Rattle.range_reserve.specs.Sorted.{AreBoth, HasPut, IsRisingBy, has_conflict_before_end, held_key, holder_fits}
use Rattle.range_reserve.specs.Sorted.{is_free, is_living, let_go, living, place_by, start_key}
use Rattle.range_reserve.proofs.Kept.{apart_filter, beside_all}
use Rattle.range_reserve.proofs.Orders.{all_filter, all_found, all_with, found_has}
use Rattle.range_reserve.proofs.Putting.{all_set, conflict_living, let_go_in_place}
use Rattle.range_reserve.proofs.Rising.{apart_by_ticket, filter-by_ticket, find-by_ticket, list_any-by_ticket}
use Rattle.range_reserve.proofs.Rising.{rising_by_ticket}
use Rattle.range_reserve.proofs.Windows.{apart_insert_at, by_ticket-insert_at, conflict_in_window}

-- ---- how many

length-insert_held : (h : HeldRange) (xs : List HeldRange) → length (insert_held h xs) ≡ suc (length xs)
length-insert_held h [] = refl
length-insert_held h (x ∷ xs) = go (nat_lt h.ticket x.ticket) (length-insert_held h xs)
  where
    go : (b : Bool) → length (insert_held h xs) ≡ suc (length xs)
        → length (cond b (h ∷ x ∷ xs) (x ∷ insert_held h xs)) ≡ suc (length (x ∷ xs))
    go true later = refl
    go false later = ap suc later

length-by_ticket : (xs : List HeldRange) → length (by_ticket xs) ≡ length xs
length-by_ticket [] = refl
length-by_ticket (x ∷ xs) = length-insert_held x (by_ticket xs) ∙ ap suc (length-by_ticket xs)

length-held_beside : (t : ℕ) (y : HeldRange) (xs : List HeldRange) → AreApart xs
    → find (λ h. h.ticket == t) xs ≡ Some y → suc (length (held_beside xs t)) ≡ length xs
length-held_beside t y [] a e = absurd (let f : None ≡ Some y = e in cc)
length-held_beside t y (x ∷ xs) a e = elim (cases_Bool (x.ticket == t)) [
  | inl h ↦ ap (λ zs. suc (length zs))
      (cond-false (not (x.ticket == t)) (x ∷ held_beside xs t) (held_beside xs t) (not_from_true (x.ticket == t) h)
      ∙ beside_all xs t (ap (holds_range xs) (sym (eqb-true x.ticket t h)) ∙ a.1))
  | inr h ↦ ap (λ zs. suc (length zs))
      (cond-true (not (x.ticket == t)) (x ∷ held_beside xs t) (held_beside xs t) (not_from_false (x.ticket == t) h))
      ∙ ap suc (length-held_beside t y xs a.3
      (sym (cond-false (x.ticket == t) (Some x) (find (λ z. z.ticket == t) xs) h) ∙ e))
]

module _ (longest : ℕ) (starts tickets : List HeldRange) (both : AreBoth longest starts tickets) where
  pub tickets_rising : AreHoldersRising (living tickets)
  tickets_rising = subst AreHoldersRising both.0 (rising_by_ticket (living starts))

  pub tickets_apart : AreApart (living tickets)
  tickets_apart = subst AreApart both.0 (apart_by_ticket (living starts) both.1.0)

  pub as_many : length (living starts) ≡ length (living tickets)
  as_many = sym (length-by_ticket (living starts)) ∙ ap length both.0

  any_of : (p : HeldRange → Bool) → list_any p (living tickets) ≡ list_any p (living starts)
  any_of p = ap (list_any p) (sym both.0) ∙ list_any-by_ticket p (living starts)

  pub in_window : (r : Range) (m : Mode)
      → has_conflict_before_end (drop (place_by held_key (start_key (r.slba - longest) 0) starts) starts) r m
      ≡ has_conflict (living tickets) r m
  in_window r m = conflict_in_window longest r m starts both.1.1 both.1.2 ∙ conflict_living r m starts
      ∙ sym (any_of (λ h. conflict r m h.range h.mode))

  fits_living : list_all (holder_fits longest) (living starts) ≡ true
  fits_living = all_filter is_living (holder_fits longest) starts both.1.2

  -- ---- one more

  module _ (h : HeldRange) (free : holds_range (living tickets) h.ticket ≡ false)
      (bits : h.ticket < 18446744073709551616)
    where
      not_there : holds_range (living starts) h.ticket ≡ false
      not_there = sym (any_of (λ y. y.ticket == h.ticket)) ∙ free

      no_key : (xs : List HeldRange) → list_all (holder_fits longest) xs ≡ true → holds_range xs h.ticket ≡ false
          → list_any (λ y. held_key y == held_key h) xs ≡ false
      no_key [] a f = refl
      no_key (x ∷ xs) a f =
          let k = and_parts (holder_fits longest x) (list_all (holder_fits longest) xs) a in
          let b = and_parts (nat_le x.range.blocks longest) (nat_lt x.ticket 18446744073709551616) k.0 in
          let g = or_parts (x.ticket == h.ticket) (holds_range xs h.ticket) f in
          or_from (held_key x == held_key h) (list_any (λ y. held_key y == held_key h) xs)
          (ne_eqb (held_key x) (held_key h) (λ e. absurd (true≢false (sym (eq-eqb x.ticket h.ticket
          (omega (arith, e, bits, ltb-true x.ticket 18446744073709551616 b.1))) ∙ g.0))))
          (no_key xs k.1 g.1)

      pub start_free : is_free held_key (held_key h) starts ≡ true
      start_free = not_from_false _ (no_key (living starts) fits_living not_there)

      module _ (more : ℕ) (l : longest ≤ more) (b : h.range.blocks ≤ more) where
        pub fits_more : list_all (holder_fits more) starts ≡ true
        fits_more = all_with (holder_fits longest) (holder_fits more) wider starts both.1.2
          where
            wider : (x : HeldRange) → holder_fits longest x ≡ true → holder_fits more x ≡ true
            wider x f =
                let k = and_parts (nat_le x.range.blocks longest) (nat_lt x.ticket 18446744073709551616) f in
                and_from _ _ (le-leb x.range.blocks more (omega (arith, l, leb-true x.range.blocks longest k.0))) k.1

        pub new_fits : holder_fits more h ≡ true
        new_fits = and_from _ _ (le-leb h.range.blocks more b) (lt-ltb h.ticket 18446744073709551616 bits)

        pub both_put : (by_start by_rise : List HeldRange) → IsRange h.range
            → has_conflict (living tickets) h.range h.mode ≡ false → HasPut held_key h starts by_start
            → list_all (holder_fits more) by_start ≡ true → living by_rise ≡ insert_held h (living tickets)
            → IsRisingBy (λ (y : HeldRange). y.ticket) by_rise → AreBoth more by_start by_rise
        both_put by_start by_rise r c p f e s = (
          ap by_ticket p.added ∙ by_ticket-insert_at h (living starts) place not_there ∙ ap (insert_held h) both.0
              ∙ sym e,
          (
            subst AreApart (sym p.added) (apart_insert_at h (living starts) place r not_there
                (sym (any_of (λ y. conflict h.range h.mode y.range y.mode)) ∙ c) both.1.0),
            p.rising,
            f,
          ),
          s,
        )
          where
            place : ℕ
            place = place_by held_key (held_key h) (living starts)

      pub one_more : (by_rise : List HeldRange) → living by_rise ≡ insert_held h (living tickets)
          → length (living by_rise) ≡ suc (length (living tickets))
      one_more by_rise e = ap length e ∙ length-insert_held h (living tickets)

  -- ---- one less

  module _ (t : ℕ) (y : HeldRange) (found : find (λ h. h.ticket == t) (living tickets) ≡ Some y) where
    found_start : find (λ h. h.ticket == t) (living starts) ≡ Some y
    found_start = sym (find-by_ticket t (living starts) both.1.0) ∙ ap (find (λ h. h.ticket == t)) both.0 ∙ found

    found_ticket : y.ticket ≡ t
    found_ticket = found_has t y (living tickets) found

    -- at the place of its ticket
    pub ticket_out : (i : ℕ) → i ≡ place_by (λ (h : HeldRange). h.ticket) t tickets
        → (living (slice_set tickets i (let_go y)) ≡ held_beside (living tickets) t)
        × IsRisingBy (λ (h : HeldRange). h.ticket) (slice_set tickets i (let_go y)) × (i < length tickets)
    ticket_out i at = subst (λ i. (living (slice_set tickets i (let_go y)) ≡ held_beside (living tickets) t)
        × IsRisingBy (λ (h : HeldRange). h.ticket) (slice_set tickets i (let_go y)) × (i < length tickets))
        (ap (λ k. place_by (λ (h : HeldRange). h.ticket) k tickets) found_ticket ∙ sym at)
        (let_go_in_place (λ h. h.ticket) t y refl tickets tickets_apart both.2 found)

    -- at the place of its start and its ticket
    pub start_out : (j : ℕ) → j ≡ place_by held_key (start_key y.range.slba t) starts
        → (living (slice_set starts j (let_go y)) ≡ held_beside (living starts) t)
        × IsRisingBy held_key (slice_set starts j (let_go y)) × (j < length starts)
    start_out j at = subst (λ i. (living (slice_set starts i (let_go y)) ≡ held_beside (living starts) t)
        × IsRisingBy held_key (slice_set starts i (let_go y)) × (i < length starts))
        (ap (λ k. place_by held_key (start_key y.range.slba k) starts) found_ticket ∙ sym at)
        (let_go_in_place held_key t y refl starts both.1.0 both.1.1 found_start)

    pub both_out : (i j : ℕ) → i ≡ place_by (λ (h : HeldRange). h.ticket) t tickets
        → j ≡ place_by held_key (start_key y.range.slba t) starts
        → AreBoth longest (slice_set starts j (let_go y)) (slice_set tickets i (let_go y))
    both_out i j at start =
        let a = ticket_out i at in
        let b = start_out j start in
        let f = and_parts (nat_le y.range.blocks longest) (nat_lt y.ticket 18446744073709551616)
        (all_found (holder_fits longest) t y (living starts) fits_living found_start) in (
          ap by_ticket b.0 ∙ sym (filter-by_ticket (λ h. not (h.ticket == t)) (living starts))
              ∙ ap (λ held. held_beside held t) both.0 ∙ sym a.0,
          (
            subst AreApart (sym b.0) (apart_filter (λ h. not (h.ticket == t)) (living starts) both.1.0),
            b.1,
            all_set (holder_fits longest) starts j (let_go y) both.1.2
                (and_from _ _ (le-leb 0 longest (omega arith)) f.1),
          ),
          a.1,
        )

    pub one_less : (i : ℕ) → i ≡ place_by (λ (h : HeldRange). h.ticket) t tickets
        → suc (length (living (slice_set tickets i (let_go y)))) ≡ length (living tickets)
    one_less i at = ap (λ zs. suc (length zs)) (ticket_out i at).0
        ∙ length-held_beside t y (living tickets) tickets_apart found
