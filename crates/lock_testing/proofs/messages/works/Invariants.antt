use Rattle.shared_system.specs.Plain.{IsPlainCallerOf, IsPlainWork}
use Rattle.lock_testing.proofs.messages.works.Given as goal

abbrev pub invariant-loop : goal.invariant-loop
invariant-loop g l = IsPlainCallerOf l.system l.caller × IsPlainWork l.system l.work
