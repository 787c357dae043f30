use Rattle.std.proofs.Common.{length, ◌+◌, ◌++◌, ◌≡◌, ◌≤◌}
use Rattle.std.specs.Vec.Iter.{into_iter_items, into_iter_len}
use Rattle.std.specs.VecDeque.{deque_capacity, deque_len}
use Rattle.remote_host.specs.Queues.{entries_of}
use Rattle.remote_host.proofs.port.push_all.Given as goal

-- what is there and what is left of the batch are together what is to be there, and there is room for it
abbrev pub invariant-loop-submission : goal.invariant-loop-submission
invariant-loop-submission l =
    let left = into_iter_items l.submission-iterator in
    (l.outgoing.items ++ entries_of l.fn.queue left ≡ l.fn.outgoing.items ++ entries_of l.fn.queue l.fn.batch.items)
    × (into_iter_len l.submission-iterator ≡ length left)
    × (l.more ≡ length left)
    × (deque_len l.outgoing + length left ≤ deque_capacity l.outgoing)
