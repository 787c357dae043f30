use Rattle.std.proofs.Common.{[], replicate, vec_capacity, ◌≡◌, ◌≤◌}
use Rattle.rings.proofs.of_queues.sq_rings.Given as goal

abbrev pub invariant-loop : goal.invariant-loop
invariant-loop l = (l.rings.items ≡ replicate l.counter (record { size = l.size; head = 0; waiting = [] }))
    × (l.count ≤ vec_capacity l.rings)
