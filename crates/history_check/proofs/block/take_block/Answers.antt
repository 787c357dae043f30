use Rattle.std.proofs.Common.{List, ap, cond, length, set, subst, sym, ◌∙◌, ◌≡◌}
use Rattle.std.proofs.lemmas.Result.{err_from_is_err_and}
use Rattle.history_check.specs.Contents.{contents_in, written_in}
use Rattle.history_check.specs.Judged.{block_fits_by}
use Rattle.history_check.specs.Tables.{CheckedTicket}
use Rattle.nvme_model.specs.Operations.{write_data}
use Rattle.nvme_model.specs.Tickets.{Ticket}
use Rattle.history_check.specs.Kept.{checker_state_in}
use Rattle.history_check.specs.declared.fields.CheckedInFlight.{CheckedInFlight}
use Rattle.history_check.proofs.Blocking.{block_few, block_missing, block_no, block_one, block_open, block_range}
use Rattle.history_check.proofs.Blocking.{block_whole, block_within, block_yes, moved_by, ticket_stays}
use Rattle.history_check.proofs.Flights.{found_by, missing_by, placed_by, rises_by, set_same}
use Rattle.history_check.proofs.block.take_block.Goals as goal

pub ticket_place-requires : goal.ticket_place-requires
ticket_place-requires c =
    record { rising = rises_by _ _ _ c.requires.keeps.2 c.args.line.now.ticket _ c.as_slice.ensures.value }

pub returns-in_default-clause-took : goal.returns-in_default-clause-took
returns-in_default-clause-took c = λ n past k.
    block_missing n past _ k c.args.line.now _
    (missing_by n past _ k c.args.line.now.ticket _ _ c.as_slice.ensures.value c.ticket_place.ensures.value
    c.in_default.is)

pub block_fits-requires : goal.block_fits-requires
block_fits-requires c =
    let k = c.requires.keeps.2 in
    let there = found_by _ _ _ k c.args.line.now.ticket c.in-Some.place c.index.result.now _ _ c.as_slice.ensures.value
    c.ticket_place.ensures.value c.in-Some.is c.index.ensures in
    record { within = block_within _ _ _ k c.args.line.now c.in-Some.place c.index.result.now there }

pub returns-then-not-branch-clause-took : goal.returns-then-not-branch-clause-took
returns-then-not-branch-clause-took c = λ n past k.
    let there = found_by _ past _ k c.args.line.now.ticket c.in-Some.place c.index.result.now _ _
    c.as_slice.ensures.value c.ticket_place.ensures.value c.in-Some.is c.index.ensures in
    block_no n past _ k c.args.line.now c.in-Some.place c.index.result.now there _
    (sym c.in_ok-block_fits.ensures.value ∙ c.if-not-branch.true)

pub take_block-requires-clause-open : goal.take_block-requires-clause-open
take_block-requires-clause-open c =
    let k = c.requires.keeps.2 in
    let here = found_by _ _ _ k c.args.line.now.ticket c.in-Some.place c.index_mut.result.now _ _
    c.as_slice.ensures.value c.ticket_place.ensures.value c.in-Some.is c.index_mut.ensures.value in
    let there = found_by _ _ _ k c.args.line.now.ticket c.in-Some.place c.index.result.now _ _ c.as_slice.ensures.value
    c.ticket_place.ensures.value c.in-Some.is c.index.ensures in
    let yes = ap (λ (x : CheckedInFlight).
    block_fits_by (contents_in c.args.fields.now.volume) x.flight c.args.line.now x.flight.unit)
    (here.is ∙ sym there.is) ∙ sym c.in_ok-block_fits.ensures.value ∙ c.if-not-branch.false in
    block_open _ _ _ k c.args.line.now c.in-Some.place c.index_mut.result.now here yes

pub take_block-requires-clause-few : goal.take_block-requires-clause-few
take_block-requires-clause-few c =
    let k = c.requires.keeps.2 in
    let here = found_by _ _ _ k c.args.line.now.ticket c.in-Some.place c.index_mut.result.now _ _
    c.as_slice.ensures.value c.ticket_place.ensures.value c.in-Some.is c.index_mut.ensures.value in
    let there = found_by _ _ _ k c.args.line.now.ticket c.in-Some.place c.index.result.now _ _ c.as_slice.ensures.value
    c.ticket_place.ensures.value c.in-Some.is c.index.ensures in
    let yes = ap (λ (x : CheckedInFlight).
    block_fits_by (contents_in c.args.fields.now.volume) x.flight c.args.line.now x.flight.unit)
    (here.is ∙ sym there.is) ∙ sym c.in_ok-block_fits.ensures.value ∙ c.if-not-branch.false in
    block_few _ _ _ k c.args.line.now c.in-Some.place c.index_mut.result.now here yes

pub take_block-requires-clause-one : goal.take_block-requires-clause-one
take_block-requires-clause-one c =
    let k = c.requires.keeps.2 in
    let here = found_by _ _ _ k c.args.line.now.ticket c.in-Some.place c.index_mut.result.now _ _
    c.as_slice.ensures.value c.ticket_place.ensures.value c.in-Some.is c.index_mut.ensures.value in
    let there = found_by _ _ _ k c.args.line.now.ticket c.in-Some.place c.index.result.now _ _ c.as_slice.ensures.value
    c.ticket_place.ensures.value c.in-Some.is c.index.ensures in
    let yes = ap (λ (x : CheckedInFlight).
    block_fits_by (contents_in c.args.fields.now.volume) x.flight c.args.line.now x.flight.unit)
    (here.is ∙ sym there.is) ∙ sym c.in_ok-block_fits.ensures.value ∙ c.if-not-branch.false in
    block_one _ _ _ k c.args.line.now c.in-Some.place c.index_mut.result.now here yes

pub take_block-requires-clause-within : goal.take_block-requires-clause-within
take_block-requires-clause-within c =
    let k = c.requires.keeps.2 in
    let here = found_by _ _ _ k c.args.line.now.ticket c.in-Some.place c.index_mut.result.now _ _
    c.as_slice.ensures.value c.ticket_place.ensures.value c.in-Some.is c.index_mut.ensures.value in
    block_within _ _ _ k c.args.line.now c.in-Some.place c.index_mut.result.now here

pub returns-in_err-done-clause-err : goal.returns-in_err-done-clause-err
returns-in_err-done-clause-err c =
    let p = err_from_is_err_and c.from_residual-in_err-done.result c.from_residual-in_err-done.ensures.1 in
    rw p.1
    (ap (λ (xs : List CheckedInFlight). record (checker_state_in c.args.fields.now) { flights = xs })
    (ap (λ (f : CheckedTicket). set c.args.fields.now.flights.items c.in-Some.place
    (record c.index_mut.result.now { flight = f })) c.in_err-done.ensures.err
    ∙ set_same c.args.fields.now.flights.items c.in-Some.place c.index_mut.result.now
    (placed_by _ _ _ c.requires.keeps.2 c.args.line.now.ticket c.in-Some.place _ _ c.as_slice.ensures.value
    c.ticket_place.ensures.value c.in-Some.is) c.index_mut.ensures.value))

pub write_taken-requires-clause-within : goal.write_taken-requires-clause-within
write_taken-requires-clause-within c =
    let k = c.requires.keeps.2 in
    let here = found_by _ _ _ k c.args.line.now.ticket c.in-Some.place c.index_mut.result.now _ _
    c.as_slice.ensures.value c.ticket_place.ensures.value c.in-Some.is c.index_mut.ensures.value in
    let there = found_by _ _ _ k c.args.line.now.ticket c.in-Some.place c.index.result.now _ _ c.as_slice.ensures.value
    c.ticket_place.ensures.value c.in-Some.is c.index.ensures in
    let yes = ap (λ (x : CheckedInFlight).
    block_fits_by (contents_in c.args.fields.now.volume) x.flight c.args.line.now x.flight.unit)
    (here.is ∙ sym there.is) ∙ sym c.in_ok-block_fits.ensures.value ∙ c.if-not-branch.false in
    block_range _ _ _ k c.args.line.now c.in-Some.place c.index_mut.result.now here yes c.in_ok-done.done
    c.in_ok-done.ensures.range c.in_ok-done.ensures.writes

pub write_taken-requires-clause-whole : goal.write_taken-requires-clause-whole
write_taken-requires-clause-whole c =
    let k = c.requires.keeps.2 in
    let here = found_by _ _ _ k c.args.line.now.ticket c.in-Some.place c.index_mut.result.now _ _
    c.as_slice.ensures.value c.ticket_place.ensures.value c.in-Some.is c.index_mut.ensures.value in
    let there = found_by _ _ _ k c.args.line.now.ticket c.in-Some.place c.index.result.now _ _ c.as_slice.ensures.value
    c.ticket_place.ensures.value c.in-Some.is c.index.ensures in
    let yes = ap (λ (x : CheckedInFlight).
    block_fits_by (contents_in c.args.fields.now.volume) x.flight c.args.line.now x.flight.unit)
    (here.is ∙ sym there.is) ∙ sym c.in_ok-block_fits.ensures.value ∙ c.if-not-branch.false in
    let same = c.ticket.ensures.value
    ∙ ticket_stays (contents_in c.args.fields.now.volume) c.args.line.now c.index_mut.result.now.flight
    c.take_block.new.self (block_open _ _ _ k c.args.line.now c.in-Some.place c.index_mut.result.now here yes)
    c.in_ok-done.ensures.ok in
    λ w l h. subst (λ (t : Ticket). length (write_data t l) ≡ 512) (sym same)
    (block_whole _ _ _ k c.args.line.now c.in-Some.place c.index_mut.result.now here yes c.in_ok-done.done
    c.in_ok-done.ensures.range c.in_ok-done.ensures.writes w l h)

pub returns-clause-took : goal.returns-clause-took
returns-clause-took c = λ n past k.
    let here = found_by _ past _ k c.args.line.now.ticket c.in-Some.place c.index_mut.result.now _ _
    c.as_slice.ensures.value c.ticket_place.ensures.value c.in-Some.is c.index_mut.ensures.value in
    let there = found_by _ past _ k c.args.line.now.ticket c.in-Some.place c.index.result.now _ _
    c.as_slice.ensures.value c.ticket_place.ensures.value c.in-Some.is c.index.ensures in
    let yes = ap (λ (x : CheckedInFlight).
    block_fits_by (contents_in c.args.fields.now.volume) x.flight c.args.line.now x.flight.unit)
    (here.is ∙ sym there.is) ∙ sym c.in_ok-block_fits.ensures.value ∙ c.if-not-branch.false in
    let same = c.ticket.ensures.value
    ∙ ticket_stays (contents_in c.args.fields.now.volume) c.args.line.now c.index_mut.result.now.flight
    c.take_block.new.self (block_open _ past _ k c.args.line.now c.in-Some.place c.index_mut.result.now here yes)
    c.in_ok-done.ensures.ok in
    block_yes _ past _ k c.args.line.now c.in-Some.place c.index_mut.result.now here yes c.in_ok-done.done
    c.in_ok-done.ensures.range c.in_ok-done.ensures.writes c.in_ok-done.ensures.ended _
    (moved_by (contents_in c.args.fields.now.volume) c.args.line.now c.index_mut.result.now c.take_block.new.self
    c.in_ok-done.ensures.ok)
    c.write_taken.new.volume c.write_taken.ensures.length
    (λ l below. c.write_taken.ensures.value l below
    ∙ ap (λ (t : Ticket). cond c.in_ok-done.done.writes
    (written_in (contents_in c.args.fields.now.volume) t c.in_ok-done.done.range l)
    (contents_in c.args.fields.now.volume l)) same)
    c.release_ended.new.ranges.held c.release_ended.ensures.held
