use Rattle.std.proofs.Common.{[], replicate, true, vec_capacity, ◌≡◌, ◌≤◌}
use Rattle.rings.proofs.of_queues.cq_rings.Given as goal

abbrev pub invariant-loop : goal.invariant-loop
invariant-loop l = (l.rings.items
    ≡ replicate l.counter (record { size = l.size; tail = 0; phase = true; waiting = [] }))
    × (l.count ≤ vec_capacity l.rings)
