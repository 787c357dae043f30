use Rattle.driver_cas.specs.Drivers.{IsCallOf}
use Rattle.driver_tests.proofs.hostile.is_told.Given as goal

abbrev pub invariant-loop-want : goal.invariant-loop-want
invariant-loop-want g l = IsCallOf l.driver l.next
