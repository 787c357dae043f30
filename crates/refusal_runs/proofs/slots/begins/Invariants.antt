use Rattle.driver_testing.specs.Claimants.{IsClaimant}
use Rattle.refusal_runs.proofs.slots.begins.Given as goal

abbrev pub invariant-loop : goal.invariant-loop
invariant-loop l = IsClaimant l.system l.slots l.claimant
