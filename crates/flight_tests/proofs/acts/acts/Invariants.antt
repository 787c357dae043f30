use Rattle.flight_tests.specs.Flights.{AreCallsOf}
use Rattle.flight_tests.proofs.acts.acts.Given as goal

abbrev pub invariant-loop : goal.invariant-loop
invariant-loop g l = AreCallsOf l.driver l.calls.items
