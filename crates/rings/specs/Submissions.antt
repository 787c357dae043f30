-- What the ring of a submission queue shows (Base 2.0, Queue Pair Model).
use Rattle.std.specs.Prelude.{Bool, List, Option, [], drop, length, nat_lt, ℕ, ◌%◌, ◌+◌, ◌-◌, ◌==◌, ◌∷◌, ◌≡◌, ◌≤◌}
use Rattle.nvme_model.specs.Tables.{first_row}
use Rattle.nvme_model.specs.declared.refusal.Why.{Why}
use Rattle.nvme_model.specs.declared.submission.Submission.{Submission}

-- how many slots there are, the slot of the entry that is fetched next, and the entries that wait, that one first
pub record SubmissionRing : Type 0 where
  pub size : ℕ
  pub head : ℕ
  pub waiting : List Submission

-- all entries that were published to a queue, batches joined, and how many were fetched
pub record Submitted : Type 0 where
  pub published : List Submission
  pub fetched : ℕ

-- the ring shows this queue: what waits is what was published and not fetched,
-- and the head is the count of the fetched by division
pub record ShowsSubmitted (s : Submitted) (r : SubmissionRing) : Type 0 where
  pub fetched : s.fetched ≤ length s.published
  pub waiting : r.waiting ≡ drop s.fetched s.published
  pub head : r.head ≡ s.fetched % r.size

-- the ring after k entries left it
abbrev pub advanced : SubmissionRing → ℕ → SubmissionRing
advanced r k = record r { waiting = drop k r.waiting; head = (r.head + k) % r.size }

-- why a batch isn't taken where that many entries wait, the first that holds (Base 2.0, Full Queue: one slot stays
-- free)
abbrev pub batch_faults : ℕ → ℕ → List Submission → List (Bool × Why)
batch_faults size waiting batch =
    (length batch == 0, Why.BadBatch)
    ∷ (nat_lt (size - 1) (waiting + length batch), Why.NoRoom)
    ∷ []

-- the first reason for which the ring doesn't take a batch, if one holds
abbrev pub batch_fault : SubmissionRing → List Submission → Option Why
batch_fault r batch = first_row (batch_faults r.size (length r.waiting) batch)
