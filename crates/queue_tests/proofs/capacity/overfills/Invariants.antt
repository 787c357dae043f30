use Rattle.shared_system.specs.Plain.{IsPlainCallerOf}
use Rattle.queue_tests.proofs.capacity.overfills.Given as goal

abbrev pub invariant-loop-cid : goal.invariant-loop-cid
invariant-loop-cid g l = IsPlainCallerOf l.system l.caller
