use Rattle.std.specs.Prelude.{◌≡◌}
use Rattle.driver_cas.specs.Drivers.{area_of}
use Rattle.driver_tests.proofs.faults.begins_after.Given as goal

abbrev pub invariant-loop-fault : goal.invariant-loop-fault
invariant-loop-fault g l = area_of l.driver ≡ record { slba = 0; blocks = 1 }
