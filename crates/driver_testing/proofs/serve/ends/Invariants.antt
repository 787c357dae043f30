use Rattle.work_queue.specs.Engines.{IsWorkOf}
use Rattle.driver_testing.specs.Hosts.{ServesOn}
use Rattle.shared_system.specs.Plain.{IsPlainCallerOf}
use Rattle.driver_testing.proofs.serve.ends.Given as goal

abbrev pub invariant-loop : goal.invariant-loop
invariant-loop g l = IsPlainCallerOf l.system l.server × IsWorkOf l.system.engine l.work × ServesOn l.fn.server l.server
