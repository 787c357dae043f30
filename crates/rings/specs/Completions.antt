-- What the ring of a completion queue shows (Base 2.0, Queue Pair Model; Phase Tag).
use Rattle.std.specs.Prelude.{Bool, List, [], drop, if◌then◌else◌, length, not, ℕ, ◌%◌, ◌+◌, ◌++◌, ◌-◌, ◌==◌, ◌∷◌, ◌≡◌}
use Rattle.std.specs.Prelude.{◌≤◌}
use Rattle.nvme_model.specs.Bits.{bit}
use Rattle.nvme_model.specs.Completions.{phase}
use Rattle.rings.specs.declared.completion_ring.Completion.{Completion}

-- how many slots there are, the slot and the phase tag of the completion that is posted next, and the completions that
-- wait, the one that is reaped next first
pub record CompletionRing : Type 0 where
  pub size : ℕ
  pub tail : ℕ
  pub phase : Bool
  pub waiting : List Completion

-- all completions that were posted to a queue, whichever submission queues they are for, and how many were reaped
pub record QueueCompletions : Type 0 where
  pub posted : List Completion
  pub reaped : ℕ

-- the ring shows this queue: what waits is what was posted and not reaped,
-- and the tail and the phase are the count of the posted by division
pub record ShowsCompleted (s : QueueCompletions) (r : CompletionRing) : Type 0 where
  pub reaped : s.reaped ≤ length s.posted
  pub waiting : r.waiting ≡ drop s.reaped s.posted
  pub tail : r.tail ≡ length s.posted % r.size
  pub phase : bit r.phase ≡ phase (length s.posted) r.size

-- one slot stays free (Base 2.0, Full Queue)
abbrev pub is_full : CompletionRing → Bool
is_full r = length r.waiting == r.size - 1

-- the ring after one more completion: past the last slot a pass ends, and the phase tag is inverted
abbrev pub posted_ring : CompletionRing → Completion → CompletionRing
posted_ring r c =
    record {
      size = r.size;
      tail = (r.tail + 1) % r.size;
      phase = if r.tail + 1 == r.size then not r.phase else r.phase;
      waiting = r.waiting ++ c ∷ [];
    }
