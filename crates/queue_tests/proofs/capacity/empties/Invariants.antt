use Rattle.shared_system.specs.Plain.{IsPlainCallerOf}
use Rattle.queue_tests.proofs.capacity.empties.Given as goal

abbrev pub invariant-loop-ticket : goal.invariant-loop-ticket
invariant-loop-ticket g l = IsPlainCallerOf l.system l.caller
