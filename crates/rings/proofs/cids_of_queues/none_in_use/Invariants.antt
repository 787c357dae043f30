use Rattle.std.proofs.Common.{[], replicate, vec_capacity, ◌≡◌, ◌≤◌}
use Rattle.rings.proofs.cids_of_queues.none_in_use.Given as goal

abbrev pub invariant-loop : goal.invariant-loop
invariant-loop l = (l.used.items ≡ replicate l.counter (record { room = l.room; cids = [] }))
    × (l.count ≤ vec_capacity l.used)
