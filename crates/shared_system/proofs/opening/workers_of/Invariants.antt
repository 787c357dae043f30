use Rattle.std.proofs.Common.{vec_len, ◌≡◌, ◌≤◌, ◌+◌}
use Rattle.std.specs.Vec.{vec_capacity}
use Rattle.shared_system.specs.Callers.{AreLastWorkers, AreSpares}
use Rattle.shared_system.proofs.opening.workers_of.Given as goal

abbrev pub invariant-loop : goal.invariant-loop
invariant-loop g l =
    AreSpares l.system l.config l.all l.spares
    × AreLastWorkers l.system l.config l.all l.count l.workers.items
    × (vec_len l.spares.rows + l.counter ≡ l.count) × (vec_len l.workers ≡ l.counter)
    × (l.count ≤ vec_capacity l.workers)
