use Rattle.std.proofs.Common.{◌≡◌}
use Rattle.rings.specs.Submissions.{advanced}
use Rattle.rings.proofs.submission_ring.SqRing.advance.Given as goal

abbrev pub invariant-loop : goal.invariant-loop
invariant-loop l =
    let slots = l.self-inside.slots in
    record { size = slots.size; head = slots.head; waiting = slots.items } ≡ advanced l.fn.self l.counter
