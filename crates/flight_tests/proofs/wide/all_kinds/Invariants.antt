use Rattle.shared_system.specs.Plain.{IsPlainCallerOf}
use Rattle.flight_tests.specs.Flights.{AreInFlight}
use Rattle.flight_tests.proofs.wide.all_kinds.Given as goal

abbrev pub invariant-loop-kind : goal.invariant-loop-kind
invariant-loop-kind g l = IsPlainCallerOf l.system l.server × AreInFlight l.system l.flight.host l.flight.calls.items
