use Rattle.std.proofs.Common.{All}
use Rattle.work_queue.specs.Engines.{IsWorkOf}
use Rattle.shared_system.specs.Plain.{IsPlainCallerOf}
use Rattle.flight_tests.proofs.wide.all_ended.Given as goal

abbrev pub invariant-loop-queue : goal.invariant-loop-queue
invariant-loop-queue g l = IsPlainCallerOf l.system l.server × All (IsWorkOf l.system.engine) l.works.items

abbrev pub invariant-loop : goal.invariant-loop
invariant-loop g l = IsPlainCallerOf l.system l.server × All (IsWorkOf l.system.engine) l.works.items
