use Rattle.std.proofs.Common.{◌≡◌}
use Rattle.driver_cas.specs.Drivers.{IsCallOf}
use Rattle.driver_testing.specs.Calls.{Polls}
use Rattle.driver_testing.proofs.ask.answers.Given as goal

abbrev pub invariant-loop : goal.invariant-loop
invariant-loop l = Polls l.fn.host l.host l.fn.call × (l.next ≡ l.fn.call) × IsCallOf l.host.driver l.next
