use Rattle.shared_system.specs.Plain.{IsPlainCallerOf}
use Rattle.driver_testing.specs.Claimants.{IsClaimant}
use Rattle.slot_tests.proofs.rows.does_all.Given as goal

abbrev pub invariant-loop-host : goal.invariant-loop-host
invariant-loop-host g l =
    IsPlainCallerOf l.system l.server × IsClaimant l.system l.slots l.one × IsClaimant l.system l.slots l.two
