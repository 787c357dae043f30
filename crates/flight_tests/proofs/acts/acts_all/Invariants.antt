use Rattle.flight_tests.specs.Flights.{AreCallsOf}
use Rattle.flight_tests.proofs.acts.acts_all.Given as goal

abbrev pub invariant-loop-act : goal.invariant-loop-act
invariant-loop-act g l = AreCallsOf l.driver l.calls.items
