use Rattle.history_check.proofs.Blocking.{block_within}
use Rattle.history_check.proofs.Flights.{found_by, missing_by, rises_by}
use Rattle.history_check.proofs.Telling.{tell_block, tell_no_block, tell_some}
use Rattle.history_check.proofs.why.why_block.Goals as goal

pub ticket_place-requires : goal.ticket_place-requires
ticket_place-requires c =
    record { rising = rises_by _ _ _ c.requires.keeps.2 c.args.line.now.ticket _ c.as_slice.ensures.value }

pub returns-in_default : goal.returns-in_default
returns-in_default c = record {
  value = λ n past k. tell_no_block n past _ k c.args.line.now
      (missing_by n past _ k c.args.line.now.ticket _ _ c.as_slice.ensures.value c.ticket_place.ensures.value
      c.in_default.is);
}

pub block_wrong-requires-clause-within : goal.block_wrong-requires-clause-within
block_wrong-requires-clause-within c =
    let k = c.requires.keeps.2 in
    let there = found_by _ _ _ k c.args.line.now.ticket c.in-Some.place c.index-one.result.now _ _
    c.as_slice.ensures.value c.ticket_place.ensures.value c.in-Some.is c.index-one.ensures in
    block_within _ _ _ k c.args.line.now c.in-Some.place c.index-one.result.now there

pub block_wrong-requires-clause-some : goal.block_wrong-requires-clause-some
block_wrong-requires-clause-some c =
    let k = c.requires.keeps.2 in
    let there = found_by _ _ _ k c.args.line.now.ticket c.in-Some.place c.index-one.result.now _ _
    c.as_slice.ensures.value c.ticket_place.ensures.value c.in-Some.is c.index-one.ensures in
    tell_some _ _ _ k c.args.line.now c.in-Some.place c.index-one.result.now there

pub returns : goal.returns
returns c = record {
  value = λ n past k.
      let there = found_by n past _ k c.args.line.now.ticket c.in-Some.place c.index-one.result.now _ _
      c.as_slice.ensures.value c.ticket_place.ensures.value c.in-Some.is c.index-one.ensures in
      rw (tell_block n past _ k c.args.line.now c.in-Some.place c.index-one.result.now there) at
      c.block_wrong.ensures.value;
}
