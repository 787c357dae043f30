use Rattle.std.proofs.Common.{◌∷◌}
use Rattle.flight_tests.specs.Flights.{AreCallsOf}
use Rattle.flight_tests.proofs.flights.ends_one.Given as goal

abbrev pub invariant-loop-k : goal.invariant-loop-k
invariant-loop-k g l = record {
  later : g.P.Port.follows l.fn.driver.port l.driver.port;
  calls : AreCallsOf l.driver (l.next ∷ l.calls.items);
}
