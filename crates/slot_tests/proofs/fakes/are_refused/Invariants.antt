use Rattle.std.specs.Prelude.{◌≡◌}
use Rattle.driver_cas.specs.Drivers.{area_of}
use Rattle.slot_alloc.specs.Areas.{area}
use Rattle.slot_tests.proofs.fakes.are_refused.Given as goal

abbrev pub invariant-loop-want : goal.invariant-loop-want
invariant-loop-want g l = area_of l.driver ≡ area l.slots
