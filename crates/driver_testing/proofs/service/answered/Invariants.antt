use Rattle.shared_system.specs.Plain.{IsPlainCallerOf}
use Rattle.driver_testing.specs.Claimants.{IsClaimant}
use Rattle.driver_testing.proofs.service.answered.Given as goal

abbrev pub invariant-loop : goal.invariant-loop
invariant-loop g l = IsPlainCallerOf l.system l.server × IsClaimant l.system l.slots l.claimant
