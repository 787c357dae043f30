use Rattle.flight_tests.proofs.InFlight.{first_of, goes_on_with, others_stay, rest_of}
use Rattle.flight_tests.proofs.flights.ends_one.Goals as goal

pub polled-told-requires : goal.polled-told-requires
polled-told-requires g c = first_of c.loop-k.driver c.loop-k.next c.takes.new.calls.items c.loop-k.invariant.calls

pub returns-in_default-clause-calls : goal.returns-in_default-clause-calls
returns-in_default-clause-calls g c =
    others_stay c.loop-k.driver c.polled-told.new.driver c.loop-k.next c.takes.new.calls.items
    c.polled-told.ensures.others c.loop-k.invariant.calls

pub loop-k-preserved : goal.loop-k-preserved
loop-k-preserved g c =
    record {
      later = g.met.P.Port.goes_on _ _ _ c.loop-k.invariant.later c.polled-told.ensures.later;
      calls = goes_on_with c.loop-k.driver c.polled-told.new.driver c.loop-k.next c.in-Some.call c.takes.new.calls.items
          _ c.polled-told.ensures.others c.in-Some.is c.polled-told.ensures.back c.loop-k.invariant.calls;
    }

pub returns-clause-calls : goal.returns-clause-calls
returns-clause-calls g c = rest_of c.loop-k.driver c.loop-k.next c.takes.new.calls.items c.loop-k.invariant.calls
