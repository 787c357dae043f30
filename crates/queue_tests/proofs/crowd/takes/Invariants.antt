use Rattle.shared_system.specs.Plain.{IsPlainCallerOf}
use Rattle.queue_tests.proofs.crowd.takes.Given as goal

abbrev pub invariant-loop : goal.invariant-loop
invariant-loop g l = IsPlainCallerOf l.system l.caller
