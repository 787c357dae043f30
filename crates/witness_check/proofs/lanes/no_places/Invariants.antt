use Rattle.std.proofs.Common.{[], replicate, vec_capacity, ◌≡◌, ◌≤◌}
use Rattle.witness_check.proofs.lanes.no_places.Given as goal

abbrev pub invariant-loop : goal.invariant-loop
invariant-loop l = (l.table.items ≡ replicate l.counter []) × (l.count ≤ vec_capacity l.table)
