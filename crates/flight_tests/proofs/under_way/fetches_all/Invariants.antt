use Rattle.std.proofs.Common.{All}
use Rattle.work_queue.specs.Engines.{IsWorkOf}
use Rattle.shared_system.specs.Plain.{IsPlainCallerOf}
use Rattle.flight_tests.proofs.under_way.fetches_all.Given as goal

abbrev pub invariant-loop : goal.invariant-loop
invariant-loop l = IsPlainCallerOf l.system l.server × All (IsWorkOf l.system.engine) l.works.items
