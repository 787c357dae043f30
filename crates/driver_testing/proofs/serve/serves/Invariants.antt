use Rattle.driver_testing.specs.Hosts.{ServesOn}
use Rattle.shared_system.specs.Plain.{IsPlainCallerOf}
use Rattle.driver_testing.proofs.serve.serves.Given as goal

abbrev pub invariant-loop : goal.invariant-loop
invariant-loop g l = IsPlainCallerOf l.system l.server × ServesOn l.fn.server l.server
