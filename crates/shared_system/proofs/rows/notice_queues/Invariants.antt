use Rattle.std.proofs.Common.{All, vec_len, ◌≡◌, ◌≤◌}
use Rattle.std.specs.Vec.{vec_capacity}
use Rattle.shared_system.specs.Capacities.{HasRoom}
use Rattle.shared_system.specs.Callers.{ArePlaces}
use Rattle.shared_system.proofs.rows.notice_queues.Given as goal

abbrev pub invariant-loop : goal.invariant-loop
invariant-loop l =
    All (λ row. ArePlaces l.engine l.made.items row.items) l.rows.items × (vec_len l.rows ≡ l.count)
    × (vec_len l.made ≡ l.counter) × (l.queues ≤ vec_capacity l.made) × All (HasRoom l.capacity) l.made.items
