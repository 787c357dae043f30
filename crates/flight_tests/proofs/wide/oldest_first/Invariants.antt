use Rattle.flight_tests.specs.Flights.{AreInFlight}
use Rattle.flight_tests.proofs.wide.oldest_first.Given as goal

abbrev pub invariant-loop-number : goal.invariant-loop-number
invariant-loop-number g l = AreInFlight l.system l.flight.host l.flight.calls.items
