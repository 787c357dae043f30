use Rattle.std.proofs.Common.{[], replicate, vec_capacity, ◌≡◌, ◌≤◌}
use Rattle.witness_check.proofs.payloads.no_payloads.Given as goal

abbrev pub invariant-loop : goal.invariant-loop
invariant-loop l = (l.queues.items ≡ replicate l.counter []) × (l.count ≤ vec_capacity l.queues)
