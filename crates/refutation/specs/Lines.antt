-- Which entry each line of a trace publishes or answers. A trace is the list of its lines, the newest first; an entry
-- is named by its submission queue and its number there, from 0.
use Rattle.std.specs.Prelude.{Bool, List, None, Option, Some, [], false, if◌then◌else◌, is_none, length, nat_le, nat_lt}
use Rattle.std.specs.Prelude.{suc, true, ℕ, ◌&&◌, ◌+◌, ◌++◌, ◌==◌, ◌∷◌}
use Rattle.nvme_model.specs.EntryBytes.{cqe_fields}
use Rattle.nvme_model.specs.declared.submission.Submission.{Submission}
use Rattle.host_laws.specs.Book.{Book, cid_of, empty_book, with_entry, without_entry}
use Rattle.trace.specs.declared.seen.ReapedLine.{ReapedLine}
use Rattle.trace.specs.declared.seen.Seen.{Seen}

-- The entries that a trace publishes to submission queue q, in order.
abbrev pub published_in : List Seen → ℕ → List Submission
published_in [] q = []
published_in (Seen.Published p ∷ trace) q = published_in trace q ++ (if p.queue == q then p.batch else [])
published_in (Seen.Reaped r ∷ trace) q = published_in trace q

-- How many completions a trace reaps from completion queue n.
abbrev pub reaped_in : List Seen → ℕ → ℕ
reaped_in [] n = 0
reaped_in (Seen.Published p ∷ trace) n = reaped_in trace n
reaped_in (Seen.Reaped r ∷ trace) n = reaped_in trace n + (if r.queue == n then 1 else 0)

-- The longest beginning of a trace in which entry j of submission queue q isn't published.
abbrev pub before_entry : List Seen → ℕ → ℕ → List Seen
before_entry [] q j = []
before_entry (s ∷ trace) q j =
    if nat_le (length (published_in (s ∷ trace) q)) j then s ∷ trace else before_entry trace q j

-- These entries of submission queue q, the first with number j, wait from now on.
abbrev pub with_batch : Book → ℕ → ℕ → List Submission → Book
with_batch book q j [] = book
with_batch book q j (s ∷ batch) = with_batch (with_entry book q (cid_of s) j) q (suc j) batch

-- The entries that wait for their completions behind a trace: by submission queue and CID, the newest one's number. A
-- Reap takes out the entry whose queue and CID it names.
abbrev pub waiting_in : List Seen → Book
waiting_in [] = empty_book
waiting_in (Seen.Published p ∷ trace) =
    with_batch (waiting_in trace) p.queue (length (published_in trace p.queue)) p.batch
waiting_in (Seen.Reaped r ∷ trace) = without_entry (waiting_in trace) (cqe_fields r.cqe).sqid (cqe_fields r.cqe).cid

-- Each of these entries of submission queue q, the first with number j, has a CID of 16 bits under which none waits.
abbrev pub has_free_cids : Book → ℕ → ℕ → List Submission → Bool
has_free_cids book q j [] = true
has_free_cids book q j (s ∷ batch) =
    nat_lt (cid_of s) 65536 && is_none (book q (cid_of s))
    && has_free_cids (with_entry book q (cid_of s) j) q (suc j) batch

-- A trace publishes no CID on a submission queue again before its completion was reaped; each such queue has a number
-- of 16 bits.
abbrev pub is_tidy : List Seen → Bool
is_tidy [] = true
is_tidy (Seen.Published p ∷ trace) =
    is_tidy trace && nat_lt p.queue 65536
    && has_free_cids (waiting_in trace) p.queue (length (published_in trace p.queue)) p.batch
is_tidy (Seen.Reaped r ∷ trace) = is_tidy trace

-- The number of the entry that a completion with these bytes answers behind a trace, on the submission queue that it
-- names: the one that waits under its CID.
abbrev pub answered : List Seen → List ℕ → Option ℕ
answered trace cqe = waiting_in trace (cqe_fields cqe).sqid (cqe_fields cqe).cid

-- it is this number
abbrev pub is_number : ℕ → Option ℕ → Bool
is_number j None = false
is_number j (Some i) = i == j

-- The line that answers entry j of submission queue q, where a trace has one.
abbrev pub answer_in : List Seen → ℕ → ℕ → Option ReapedLine
answer_in [] q j = None
answer_in (Seen.Published p ∷ trace) q j = answer_in trace q j
answer_in (Seen.Reaped r ∷ trace) q j =
    if ((cqe_fields r.cqe).sqid == q) && is_number j (answered trace r.cqe) then Some r else answer_in trace q j
