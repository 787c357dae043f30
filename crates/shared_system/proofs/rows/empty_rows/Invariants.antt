use Rattle.std.proofs.Common.{All, [], vec_len, ◌≡◌, ◌≤◌}
use Rattle.std.specs.Vec.{vec_capacity}
use Rattle.shared_system.specs.Callers.{ArePlaces}
use Rattle.shared_system.proofs.rows.empty_rows.Given as goal

abbrev pub invariant-loop : goal.invariant-loop
invariant-loop l = All (λ row. ArePlaces l.engine [] row.items) l.rows.items × (vec_len l.rows ≡ l.counter)
    × (l.count ≤ vec_capacity l.rows)
