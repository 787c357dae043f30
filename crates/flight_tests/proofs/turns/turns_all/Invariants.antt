use Rattle.shared_system.specs.Plain.{IsPlainCallerOf}
use Rattle.flight_tests.specs.Flights.{AreInFlight}
use Rattle.flight_tests.proofs.turns.turns_all.Given as goal

abbrev pub invariant-loop-turn : goal.invariant-loop-turn
invariant-loop-turn g l = IsPlainCallerOf l.system l.server × AreInFlight l.system l.flight.host l.flight.calls.items
