use Rattle.std.proofs.Common.{All, [], vec_len, ◌∷◌, ◌++◌, ◌≡◌, ◌≤◌, ◌+◌}
use Rattle.std.specs.Vec.{vec_capacity}
use Rattle.work_queue.specs.QueuePasses as queue
use Rattle.shared_system.specs.Callers.{ArePlaces}
use Rattle.shared_system.proofs.rows.longer_rows.Given as goal

abbrev pub invariant-loop : goal.invariant-loop
invariant-loop l =
    All (λ row. ArePlaces l.engine l.made.items row.items) l.rows.items
    × All (λ row. ArePlaces l.engine (l.made.items ++ l.more ∷ []) row.items) l.longer.items
    × All (queue.IsPlaceOf l.engine l.more) l.places.items
    × (vec_len l.rows + l.counter ≡ l.count) × (vec_len l.places + l.counter ≡ l.count)
    × (vec_len l.longer ≡ l.counter) × (l.count ≤ vec_capacity l.longer)
