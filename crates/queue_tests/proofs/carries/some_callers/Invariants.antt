use Rattle.std.proofs.Common.{All}
use Rattle.shared_system.specs.Plain.{ArePlainCallers, IsPlainCallerOf}
use Rattle.queue_tests.proofs.carries.some_callers.Given as goal

abbrev pub invariant-loop : goal.invariant-loop
invariant-loop l = ArePlainCallers l.system l.spares × All (IsPlainCallerOf l.system) l.callers.items
