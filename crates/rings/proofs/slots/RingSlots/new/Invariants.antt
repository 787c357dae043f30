use Rattle.std.proofs.Common.{None, replicate, vec_capacity, ◌≡◌, ◌≤◌}
use Rattle.rings.proofs.slots.RingSlots.new.Given as goal

abbrev pub invariant-loop : goal.invariant-loop
invariant-loop g l = (l.slots.items ≡ replicate l.counter None) × (l.size ≤ vec_capacity l.slots)
