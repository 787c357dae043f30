use Rattle.std.proofs.Common.{ap, arith, false, length, subst, suc, sym, ◌==◌, ◌∙◌, ◌≡◌, List, None, Option, Some, ℕ}
use Rattle.std.specs.List.{find}
use Rattle.std.specs.Prelude.{slice_set}
use Rattle.range_reserve.specs.Reserved.{AreApart, Reserved, holds_range, held_beside}
use Rattle.range_reserve.specs.Sorted.{AreBoth, IsRisingBy, held_key, let_go, living, place_by, start_key}
use Rattle.range_reserve.specs.declared.held.HeldRange.{HeldRange}
use Rattle.range_reserve.proofs.BothOrders.{both_out, one_less, start_out, ticket_out, tickets_apart}
use Rattle.range_reserve.proofs.Kept.{beside_all, beside_none}
use Rattle.range_reserve.proofs.Orders.{found_none}
use Rattle.range_reserve.proofs.ranges.Ranges.release.Goals as goal

pub ticket_place-place-requires : goal.ticket_place-place-requires
ticket_place-place-requires c = record {
  rising = subst (IsRisingBy (λ (h : HeldRange). h.ticket)) (sym c.as_slice.ensures.value) c.self.invariant.0.2;
}

pub held_at-requires-clause-rising : goal.held_at-requires-clause-rising
held_at-requires-clause-rising c =
    subst (IsRisingBy (λ (h : HeldRange). h.ticket)) (sym c.as_slice-2.ensures.value) c.self.invariant.0.2

found_in : (t : ℕ) (y : HeldRange) (held tickets : List HeldRange) (r : Option HeldRange) → held ≡ tickets
    → r ≡ find (λ h. h.ticket == t) (living held) → r ≡ Some y → find (λ h. h.ticket == t) (living tickets) ≡ Some y
found_in t y held tickets r e f g = ap (λ xs. find (λ h. h.ticket == t) (living xs)) (sym e) ∙ sym f ∙ g

pub index_mut-requires : goal.index_mut-requires
index_mut-requires c =
    let out = ticket_out c.self.inside.longest c.self.inside.starts.items c.self.inside.tickets.items
    c.self.invariant.0 c.args.ticket c.in-Some.held
    (found_in c.args.ticket c.in-Some.held c.as_slice-2.result.now c.self.inside.tickets.items c.held_at.result
    c.as_slice-2.ensures.value c.held_at.ensures.value c.in-Some.is)
    c.ticket_place-place.result
    (c.ticket_place-place.ensures.place
    ∙ ap (place_by (λ (h : HeldRange). h.ticket) c.args.ticket) c.as_slice.ensures.value) in
    omega (arith, out.2, c.as_slice.ensures.len, ap length c.as_slice.ensures.value)

pub index_mut-requires-in-Some : goal.index_mut-requires-in-Some
index_mut-requires-in-Some c =
    let out = start_out c.self.inside.longest c.self.inside.starts.items c.self.inside.tickets.items c.self.invariant.0
    c.args.ticket c.in-Some.held
    (found_in c.args.ticket c.in-Some.held c.as_slice-2.result.now c.self.inside.tickets.items c.held_at.result
    c.as_slice-2.ensures.value c.held_at.ensures.value c.in-Some.is)
    c.start_place-start.result
    (c.start_place-start.ensures.place
    ∙ ap (place_by held_key (start_key c.in-Some.held.range.slba c.args.ticket)) c.as_slice-in-Some.ensures.value) in
    omega (arith, out.2, c.as_slice-in-Some.ensures.len, ap length c.as_slice-in-Some.ensures.value)

found : (c : goal.After-self-in-Some-2-1)
    → find (λ h. h.ticket == c.args.ticket) (living c.self.inside.tickets.items) ≡ Some c.in-Some.held
found c = found_in c.args.ticket c.in-Some.held c.as_slice-2.result.now c.self.inside.tickets.items c.held_at.result
    c.as_slice-2.ensures.value c.held_at.ensures.value c.in-Some.is

by_ticket : (c : goal.After-self-in-Some-2-1)
    → c.ticket_place-place.result ≡ place_by (λ (h : HeldRange). h.ticket) c.args.ticket c.self.inside.tickets.items
by_ticket c = c.ticket_place-place.ensures.place
    ∙ ap (place_by (λ (h : HeldRange). h.ticket) c.args.ticket) c.as_slice.ensures.value

by_start : (c : goal.After-self-in-Some-2-1)
    → c.start_place-start.result
    ≡ place_by held_key (start_key c.in-Some.held.range.slba c.args.ticket) c.self.inside.starts.items
by_start c = c.start_place-start.ensures.place
    ∙ ap (place_by held_key (start_key c.in-Some.held.range.slba c.args.ticket)) c.as_slice-in-Some.ensures.value

kept : (c : goal.After-self-in-Some-2-1)
    → AreBoth c.self.inside.longest
    (slice_set c.self.inside.starts.items c.start_place-start.result c.let_go-in-Some.result)
    (slice_set c.self.inside.tickets.items c.ticket_place-place.result c.let_go.result)
kept c =
    let starts = c.self.inside.starts.items in
    let tickets = c.self.inside.tickets.items in
    let start = c.start_place-start.result in
    let place = c.ticket_place-place.result in
    subst (λ g. AreBoth c.self.inside.longest (slice_set starts start g) (slice_set tickets place c.let_go.result))
    (sym c.let_go-in-Some.ensures.value)
    (subst (λ g. AreBoth c.self.inside.longest (slice_set starts start (let_go c.in-Some.held))
    (slice_set tickets place g))
    (sym c.let_go.ensures.value)
    (both_out c.self.inside.longest starts tickets c.self.invariant.0 c.args.ticket c.in-Some.held (found c) place start
    (by_ticket c) (by_start c)))

released : (c : goal.After-self-in-Some-2-1)
    → living (slice_set c.self.inside.tickets.items c.ticket_place-place.result c.let_go.result)
    ≡ held_beside c.args.self.now.held c.args.ticket
released c =
    ap (λ g. living (slice_set c.self.inside.tickets.items c.ticket_place-place.result g)) c.let_go.ensures.value
    ∙ (ticket_out c.self.inside.longest c.self.inside.starts.items c.self.inside.tickets.items c.self.invariant.0
    c.args.ticket c.in-Some.held (found c) c.ticket_place-place.result (by_ticket c)).0
    ∙ ap (λ (v : Reserved). held_beside v.held c.args.ticket) c.self.view_is

fewer : (c : goal.After-self-in-Some-2-1)
    → suc (length (living (slice_set c.self.inside.tickets.items c.ticket_place-place.result c.let_go.result)))
    ≡ length (living c.self.inside.tickets.items)
fewer c =
    ap (λ g. suc (length (living (slice_set c.self.inside.tickets.items c.ticket_place-place.result g))))
    c.let_go.ensures.value
    ∙ one_less c.self.inside.longest c.self.inside.starts.items c.self.inside.tickets.items c.self.invariant.0
    c.args.ticket c.in-Some.held (found c) c.ticket_place-place.result (by_ticket c)

pub invariant_of-self : goal.invariant_of-self
invariant_of-self c = (kept c, omega (arith, fewer c, c.self.invariant.1))

pub returns-in-Some-clause-released : goal.returns-in-Some-clause-released
returns-in-Some-clause-released c = released c

pub returns-in-Some-clause-absent : goal.returns-in-Some-clause-absent
returns-in-Some-clause-absent c = λ e. released c ∙ beside_all c.args.self.now.held c.args.ticket e

pub returns-in-Some-clause-free : goal.returns-in-Some-clause-free
returns-in-Some-clause-free c = ap (λ held. holds_range held c.args.ticket) (released c)
    ∙ beside_none c.args.self.now.held c.args.ticket

pub returns-in-Some-clause-law : goal.returns-in-Some-clause-law
returns-in-Some-clause-law c = tickets_apart c.self.inside.longest
    (slice_set c.self.inside.starts.items c.start_place-start.result c.let_go-in-Some.result)
    (slice_set c.self.inside.tickets.items c.ticket_place-place.result c.let_go.result) (kept c)

none_in : (t : ℕ) (held tickets : List HeldRange) (r : Option HeldRange) (v : Reserved) → held ≡ tickets
    → r ≡ find (λ h. h.ticket == t) (living held) → r ≡ None → living tickets ≡ v.held → holds_range v.held t ≡ false
none_in t held tickets r v e f g is = ap (λ xs. holds_range xs t) (sym (ap living e ∙ is))
    ∙ found_none t (living held) (sym f ∙ g)

pub returns-in-None-clause-released : goal.returns-in-None-clause-released
returns-in-None-clause-released c = sym (beside_all c.args.self.now.held c.args.ticket
    (none_in c.args.ticket c.as_slice-2.result.now c.self.inside.tickets.items c.held_at.result c.args.self.now
    c.as_slice-2.ensures.value c.held_at.ensures.value c.in-None.is (ap (λ (v : Reserved). v.held) c.self.view_is)))

pub returns-in-None-clause-free : goal.returns-in-None-clause-free
returns-in-None-clause-free c =
    none_in c.args.ticket c.as_slice-2.result.now c.self.inside.tickets.items c.held_at.result c.args.self.now
    c.as_slice-2.ensures.value c.held_at.ensures.value c.in-None.is (ap (λ (v : Reserved). v.held) c.self.view_is)

pub returns-in-None-clause-law : goal.returns-in-None-clause-law
returns-in-None-clause-law c =
    subst (λ (v : Reserved). AreApart v.held) c.self.view_is
    (tickets_apart c.self.inside.longest c.self.inside.starts.items c.self.inside.tickets.items c.self.invariant.0)
