use Rattle.shared_system.specs.Plain.{ArePlainCallers}
use Rattle.refusal_runs.proofs.slots.claimant.Given as goal

abbrev pub invariant-loop : goal.invariant-loop
invariant-loop l = ArePlainCallers l.system l.spares
