use Rattle.shared_system.specs.Callers.{WorkerContinues}
use Rattle.shared_system.proofs.serving.serve.Given as goal

abbrev pub invariant-loop : goal.invariant-loop
invariant-loop g l = WorkerContinues l.system l.fn.server l.server
