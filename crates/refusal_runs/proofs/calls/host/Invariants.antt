use Rattle.shared_system.specs.Plain.{ArePlainCallers}
use Rattle.refusal_runs.proofs.calls.host.Given as goal

abbrev pub invariant-loop : goal.invariant-loop
invariant-loop l = ArePlainCallers l.system l.spares
