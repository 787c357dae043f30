use Rattle.shared_system.specs.Plain.{IsFreshWork, IsPlainCallerOf}
use Rattle.queue_tests.proofs.crowd.puts.Given as goal

abbrev pub invariant-loop : goal.invariant-loop
invariant-loop g l = IsPlainCallerOf l.system l.caller × IsFreshWork l.system l.next
