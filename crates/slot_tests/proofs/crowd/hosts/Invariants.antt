use Rattle.std.specs.Prelude.{All}
use Rattle.shared_system.specs.Plain.{ArePlainCallers}
use Rattle.driver_testing.specs.Claimants.{IsClaimant}
use Rattle.slot_tests.proofs.crowd.hosts.Given as goal

abbrev pub invariant-loop-h : goal.invariant-loop-h
invariant-loop-h l = ArePlainCallers l.system l.spares × All (IsClaimant l.system l.slots) l.all.items
