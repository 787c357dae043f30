use Rattle.std.proofs.Common.{All, IfSome}
use Rattle.shared_system.specs.Plain.{IsPlainWork}
use Rattle.engine_tests.proofs.crew.put_all.Given as goal

abbrev pub invariant-loop : goal.invariant-loop
invariant-loop l = All (IsPlainWork l.system) l.works.items × All (IsPlainWork l.system) l.others.items
    × IfSome l.found (IsPlainWork l.system)
