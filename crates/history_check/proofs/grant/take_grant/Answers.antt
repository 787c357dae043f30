use Rattle.std.proofs.Common.{List, ap, arith, false, subst, sym}
use Rattle.std.proofs.Common.{true, ◌<◌, ◌^◌}
use Rattle.std.proofs.Common.{◌∙◌, ◌≡◌}
use Rattle.range_reserve.proofs.Granted.{held_ok}
use Rattle.range_reserve.specs.Reserved.{has_conflict, holds_range, held_of, insert_held}
use Rattle.range_reserve.specs.declared.held.HeldRange.{HeldRange}
use Rattle.history_check.specs.Tables.{CheckedTicket}
use Rattle.history_check.specs.Taken.{opened_flight}
use Rattle.history_check.specs.declared.fields.CheckedInFlight.{CheckedInFlight}
use Rattle.history_check.proofs.Flights.{found_by, missing_by, rises_by}
use Rattle.history_check.proofs.Granting.{grant_apart, grant_few, grant_free, grant_missing, grant_no, grant_range}
use Rattle.history_check.proofs.Granting.{grant_yes}
use Rattle.history_check.proofs.grant.take_grant.Goals as goal

pub ticket_place-requires : goal.ticket_place-requires
ticket_place-requires c =
    record { rising = rises_by _ _ _ c.requires.keeps.2 c.args.line.now.ticket _ c.as_slice.ensures.value }

pub returns-in_default-clause-took : goal.returns-in_default-clause-took
returns-in_default-clause-took c = λ n past k.
    grant_missing n past _ k c.args.line.now _
    (missing_by n past _ k c.args.line.now.ticket _ _ c.as_slice.ensures.value c.ticket_place.ensures.value
    c.in_default.is)

pub returns-then-not-grant_fits-clause-took : goal.returns-then-not-grant_fits-clause-took
returns-then-not-grant_fits-clause-took c = λ n past k.
    let there = found_by n past _ k c.args.line.now.ticket c.in-Some.place c.index.result.now _ _
    c.as_slice.ensures.value c.ticket_place.ensures.value c.in-Some.is c.index.ensures in
    grant_no n past _ k c.args.line.now c.in-Some.place c.index.result.now there c.grant_fits.result
    c.grant_fits.ensures.value _ c.if-not-grant_fits.true

pub grant-requires-clause-free : goal.grant-requires-clause-free
grant-requires-clause-free c =
    let k = c.requires.keeps.2 in
    let there = found_by _ _ _ k c.args.line.now.ticket c.in-Some.place c.index.result.now _ _ c.as_slice.ensures.value
    c.ticket_place.ensures.value c.in-Some.is c.index.ensures in
    ap (λ (hs : List HeldRange). holds_range hs c.args.line.now.ticket) c.reserve.ensures.held
    ∙ grant_free _ _ _ k c.args.line.now c.in-Some.place c.index.result.now there c.grant_fits.result
    c.grant_fits.ensures.value c.if-not-grant_fits.false

pub grant-requires-clause-range : goal.grant-requires-clause-range
grant-requires-clause-range c =
    let k = c.requires.keeps.2 in
    let there = found_by _ _ _ k c.args.line.now.ticket c.in-Some.place c.index.result.now _ _ c.as_slice.ensures.value
    c.ticket_place.ensures.value c.in-Some.is c.index.ensures in
    rw c.get-range.ensures.value
    (grant_range _ _ _ k c.args.line.now c.in-Some.place c.index.result.now there c.grant_fits.result
    c.grant_fits.ensures.value c.if-not-grant_fits.false)

pub unwrap-requires : goal.unwrap-requires
unwrap-requires c =
    let k = c.requires.keeps.2 in
    let there = found_by _ _ _ k c.args.line.now.ticket c.in-Some.place c.index.result.now _ _ c.as_slice.ensures.value
    c.ticket_place.ensures.value c.in-Some.is c.index.ensures in
    let apart = grant_apart _ _ _ k c.args.line.now c.in-Some.place c.index.result.now there c.grant_fits.result
    c.grant_fits.ensures.value c.if-not-grant_fits.false in
    let same = ap (λ (hs : List HeldRange). has_conflict hs c.args.line.now.range c.args.line.now.mode)
    c.reserve.ensures.held in
    held_ok c.grant.result c.grant.ensures.errors
    (λ e. absurd (let both : true ≡ false = sym ((rw c.get-range.ensures.value at c.grant.ensures.conflict).0 e) ∙ same
    ∙ apart in cc))
    (λ e. omega (arith, c.grant.ensures.memory e, c.in_ok-reserve.ensures.ok))

pub open-requires : goal.open-requires
open-requires c =
    let k = c.requires.keeps.2 in
    let there = found_by _ _ _ k c.args.line.now.ticket c.in-Some.place c.index.result.now _ _ c.as_slice.ensures.value
    c.ticket_place.ensures.value c.in-Some.is c.index.ensures in
    let here = found_by _ _ _ k c.args.line.now.ticket c.in-Some.place c.index_mut.result.now _ _
    c.as_slice.ensures.value c.ticket_place.ensures.value c.in-Some.is c.index_mut.ensures.value in
    let few = grant_few _ _ _ k c.args.line.now c.in-Some.place c.index.result.now there c.grant_fits.result
    c.grant_fits.ensures.value c.if-not-grant_fits.false in
    record { few = subst (λ (x : CheckedInFlight). x.flight.opened < 2 ^ 32) (there.is ∙ sym here.is) few }

pub returns-clause-took : goal.returns-clause-took
returns-clause-took c = λ n past k.
    let there = found_by n past _ k c.args.line.now.ticket c.in-Some.place c.index.result.now _ _
    c.as_slice.ensures.value c.ticket_place.ensures.value c.in-Some.is c.index.ensures in
    let here = found_by n past _ k c.args.line.now.ticket c.in-Some.place c.index_mut.result.now _ _
    c.as_slice.ensures.value c.ticket_place.ensures.value c.in-Some.is c.index_mut.ensures.value in
    grant_yes n past _ k c.args.line.now c.in-Some.place c.index.result.now there c.grant_fits.result
    c.grant_fits.ensures.value c.if-not-grant_fits.false _ _
    (ap (λ (f : CheckedTicket). record c.index_mut.result.now { flight = f }) c.open.ensures.value
    ∙ ap (λ (x : CheckedInFlight). record x { flight = opened_flight x.flight c.args.line.now }) (here.is
    ∙ sym there.is))
    ((rw c.get-range.ensures.value at (rw c.unwrap.ensures at c.grant.ensures.ok))
    ∙ ap (insert_held (held_of c.args.line.now)) c.reserve.ensures.held)
