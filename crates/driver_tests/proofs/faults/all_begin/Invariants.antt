use Rattle.std.specs.Prelude.{◌≡◌}
use Rattle.driver_cas.specs.Drivers.{area_of}
use Rattle.driver_tests.proofs.faults.all_begin.Given as goal

abbrev pub invariant-loop-count : goal.invariant-loop-count
invariant-loop-count g l = area_of l.driver ≡ record { slba = 0; blocks = 1 }

abbrev pub invariant-loop : goal.invariant-loop
invariant-loop g l = area_of l.driver ≡ record { slba = 0; blocks = 1 }
