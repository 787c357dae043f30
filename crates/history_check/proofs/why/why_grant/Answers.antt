use Rattle.std.proofs.Common.{◌∙◌}
use Rattle.history_check.proofs.Flights.{found_by, missing_by, rises_by}
use Rattle.history_check.proofs.Telling.{tell_grant, tell_no_grant}
use Rattle.history_check.proofs.why.why_grant.Goals as goal

pub ticket_place-requires : goal.ticket_place-requires
ticket_place-requires c =
    record { rising = rises_by _ _ _ c.requires.keeps.2 c.args.line.now.ticket _ c.as_slice.ensures.value }

pub returns-in_default : goal.returns-in_default
returns-in_default c = record {
  value = λ n past k. tell_no_grant n past _ k c.args.line.now
      (missing_by n past _ k c.args.line.now.ticket _ _ c.as_slice.ensures.value c.ticket_place.ensures.value
      c.in_default.is);
}

pub returns : goal.returns
returns c = record {
  value = λ n past k.
      let there = found_by n past _ k c.args.line.now.ticket c.in-Some.place c.index.result.now _ _
      c.as_slice.ensures.value c.ticket_place.ensures.value c.in-Some.is c.index.ensures in
      c.why_not_granted.ensures.value ∙ tell_grant n past _ k c.args.line.now c.in-Some.place c.index.result.now there;
}
