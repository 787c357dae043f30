use Rattle.shared_system.specs.Plain.{IsPlainCallerOf, IsPlainWork}
use Rattle.refusal_runs.proofs.works.ends.Given as goal

abbrev pub invariant-loop : goal.invariant-loop
invariant-loop g l = IsPlainCallerOf l.system l.caller × IsPlainWork l.system l.work
