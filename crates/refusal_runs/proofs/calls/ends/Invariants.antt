use Rattle.work_queue.specs.Engines.{IsWorkOf}
use Rattle.shared_system.specs.Plain.{IsPlainCallerOf}
use Rattle.refusal_runs.proofs.calls.ends.Given as goal

abbrev pub invariant-loop : goal.invariant-loop
invariant-loop g l = IsPlainCallerOf l.system l.server × IsWorkOf l.system.engine l.work
