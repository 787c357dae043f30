use Rattle.shared_system.specs.Plain.{IsPlainCallerOf}
use Rattle.flight_tests.specs.Flights.{AreInFlight}
use Rattle.flight_tests.proofs.learns.does_all.Given as goal

abbrev pub invariant-loop-deed : goal.invariant-loop-deed
invariant-loop-deed g l =
    IsPlainCallerOf l.system l.server × AreInFlight l.system l.one.host l.one.calls.items
    × AreInFlight l.system l.two.host l.two.calls.items
