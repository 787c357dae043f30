use Rattle.std.proofs.Common.{length, ◌+◌, ◌++◌, ◌<◌, ◌≡◌}
use Rattle.std.specs.Vec.Iter.{into_iter_items, into_iter_len}
use Rattle.rings.proofs.submission_ring.SqRing.publish.Given as goal

-- what waits and what is left of the batch are together what is to wait, and there is room for it
abbrev pub invariant-loop-submission : goal.invariant-loop-submission
invariant-loop-submission l =
    let slots = l.self-inside.slots in
    let left = into_iter_items l.submission-iterator in
    let all = l.fn.self.waiting ++ l.fn.batch in
    (record {
      size = slots.size;
      head = slots.head;
      waiting = slots.items ++ left;
    } ≡ record l.fn.self { waiting = all })
    × (into_iter_len l.submission-iterator ≡ length left)
    × (length l.fn.self.waiting + length l.fn.batch < l.fn.self.size)
