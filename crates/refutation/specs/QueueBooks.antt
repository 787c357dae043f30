-- What one pass over a trace keeps of a submission queue, so that the newest line is judged without looking back.
use Rattle.std.specs.Prelude.{Bool, List, None, Option, Some, [], false, if◌then◌else◌, is_none, length, max, nat_le}
use Rattle.std.specs.Prelude.{nat_lt, not, replicate, set, slice_get, suc, true, zero, ℕ, ◌&&◌, ◌++◌, ◌==◌, ◌||◌, ◌∷◌}
use Rattle.nvme_model.specs.Completions.{phase}
use Rattle.nvme_model.specs.EntryBytes.{cqe_fields, sqe_fields}
use Rattle.nvme_model.specs.Statuses.{missing_fused, same_status}
use Rattle.nvme_model.specs.declared.config.ConfigNumbers.{ConfigNumbers}
use Rattle.nvme_model.specs.declared.status.Status.{Status}
use Rattle.nvme_model.specs.declared.submission.Submission.{Submission}
use Rattle.host_laws.specs.Book.{cid_of}
use Rattle.host_laws.specs.Calls.{cqe_status}
use Rattle.trace.specs.declared.options.TraceOptions.{TraceOptions}
use Rattle.trace.specs.declared.seen.ReapedLine.{ReapedLine}
use Rattle.trace.specs.declared.seen.Seen.{Seen}
use Rattle.refutation.specs.Apart.{is_apart, is_lacked}
use Rattle.refutation.specs.LineRules.{count_to, is_apart_from, names_wrong_queue, next_at, owes_other_data}
use Rattle.refutation.specs.LineRules.{sets_unused_bits}
use Rattle.refutation.specs.MayAnswer.{answers_first, has_fuse, may_answer_behind, verdict_at}
use Rattle.refutation.specs.ReadRules.{sets_read_bits}

-- What is kept of a submission queue: its entries in order; of each how many came before its line, and the line that
-- answers it, where one does; the CIDs that wait, each with its entry's number, the newest first; and how many entries
-- were fetched at least.
pub record QueueBook : Type 0 where
  pub entries : List Submission
  pub starts : List ℕ
  pub answers : List (Option ReapedLine)
  pub waiting : List (ℕ × ℕ)
  pub least : ℕ

-- What is kept of it before the first line.
abbrev pub no_lines : QueueBook
no_lines = record { entries = []; starts = []; answers = []; waiting = []; least = 0 }

-- ---- who waits

-- The number that waits under this CID.
abbrev pub number_of : List (ℕ × ℕ) → ℕ → Option ℕ
number_of [] cid = None
number_of (w ∷ waiting) cid = if cid == w.0 then Some w.1 else number_of waiting cid

-- These entries, the first with number j, wait from now on.
abbrev pub and_batch : List (ℕ × ℕ) → ℕ → List Submission → List (ℕ × ℕ)
and_batch waiting j [] = waiting
and_batch waiting j (s ∷ batch) = and_batch ((cid_of s, j) ∷ waiting) (suc j) batch

-- None waits under this CID from now on.
abbrev pub without_cid : List (ℕ × ℕ) → ℕ → List (ℕ × ℕ)
without_cid [] cid = []
without_cid (w ∷ waiting) cid = if cid == w.0 then without_cid waiting cid else w ∷ without_cid waiting cid

-- Each of these entries, the first with number j, has a CID of 16 bits under which none waits.
abbrev pub are_free : List (ℕ × ℕ) → ℕ → List Submission → Bool
are_free waiting j [] = true
are_free waiting j (s ∷ batch) =
    nat_lt (cid_of s) 65536 && is_none (number_of waiting (cid_of s))
    && are_free ((cid_of s, j) ∷ waiting) (suc j) batch

-- ---- pairs

-- an entry that comes behind so many comes with entry j
abbrev pub starts_with : Option ℕ → ℕ → Bool
starts_with None j = false
starts_with (Some n) j = nat_le n j

-- One line publishes entry j and the next.
abbrev pub together_by : List ℕ → ℕ → Bool
together_by starts j = starts_with (slice_get starts (suc j)) j

-- So many entries end with the first of a pair, whose second the same line published.
abbrev pub parts_by : QueueBook → ℕ → Bool
parts_by b zero = false
parts_by b (suc i) =
    has_fuse 1 (slice_get b.entries i) && has_fuse 2 (slice_get b.entries (suc i)) && together_by b.starts i

-- ---- one line more

-- What is kept behind a Publish of these entries to it.
abbrev pub with_published : QueueBook → List Submission → QueueBook
with_published b batch =
    let n = length b.entries in
    record {
      entries = b.entries ++ batch;
      starts = b.starts ++ replicate (length batch) n;
      answers = b.answers ++ replicate (length batch) None;
      waiting = and_batch b.waiting n batch;
      least = b.least;
    }

-- The number of the entry that a completion answers.
abbrev pub answered_by : QueueBook → ReapedLine → Option ℕ
answered_by b r = number_of b.waiting (cqe_fields r.cqe).cid

-- So many, or, where that would part a pair, the next number that SQHD says so.
abbrev pub whole_by : ConfigNumbers → QueueBook → ℕ → ℕ → ℕ
whole_by c b head n = if parts_by b n then next_at c.sq_size (suc n) head else n

-- How many entries were fetched at least when this completion was posted.
abbrev pub least_by : ConfigNumbers → QueueBook → ReapedLine → ℕ
least_by c b r =
    let head = (cqe_fields r.cqe).sqhd in
    whole_by c b head (next_at c.sq_size (max b.least (count_to (answered_by b r))) head)

-- this line answers the entry with this number
abbrev pub with_answer : List (Option ReapedLine) → Option ℕ → ReapedLine → List (Option ReapedLine)
with_answer answers None r = answers
with_answer answers (Some j) r = set answers j (Some r)

-- What is kept behind a Reap of a completion that names it.
abbrev pub with_reaped : ConfigNumbers → QueueBook → ReapedLine → QueueBook
with_reaped c b r =
    record {
      entries = b.entries;
      starts = b.starts;
      answers = with_answer b.answers (answered_by b r) r;
      waiting = without_cid b.waiting (cqe_fields r.cqe).cid;
      least = least_by c b r;
    }

-- What is kept of submission queue q behind one line more.
abbrev pub next_book : ConfigNumbers → ℕ → QueueBook → Seen → QueueBook
next_book c q b (Seen.Published p) = if p.queue == q then with_published b p.batch else b
next_book c q b (Seen.Reaped r) = if (cqe_fields r.cqe).sqid == q then with_reaped c b r else b

-- What is kept of it behind all lines of a trace.
abbrev pub book_of : ConfigNumbers → List Seen → ℕ → QueueBook
book_of c [] q = no_lines
book_of c (s ∷ trace) q = next_book c q (book_of c trace q) s

-- ---- the newest line, by what is kept

-- A Fetch that begins at this entry, which has number j, may answer it so.
abbrev pub first_by : ConfigNumbers → QueueBook → ℕ → Submission → Status → Bool
first_by c b j first s =
    let e = sqe_fields first.entry in
    not (parts_by b j)
    && (answers_first (verdict_at c first (slice_get b.entries (suc j))) e s
    || (not (together_by b.starts j) && answers_first (verdict_at c first None) e s))

-- A Fetch that begins at the entry before it may answer it so.
abbrev pub second_by : ConfigNumbers → QueueBook → ℕ → Submission → Status → Bool
second_by c b zero second s = false
second_by c b (suc i) second s = may_answer_behind c (slice_get b.entries i) second s

-- the line that stands at a place, where one does
abbrev pub line_or_none : Option (Option ReapedLine) → Option ReapedLine
line_or_none None = None
line_or_none (Some a) = a

-- The line that answers entry j, where one does.
abbrev pub answer_by : QueueBook → ℕ → Option ReapedLine
answer_by b j = line_or_none (slice_get b.answers j)

-- This entry, which has number j, and the one before it are the second and the first of a pair, and the second can't be
-- answered so: the first isn't answered, or otherwise.
abbrev pub second_wrong_by : QueueBook → ℕ → Status → Bool
second_wrong_by b zero s = false
second_wrong_by b (suc i) s =
    has_fuse 1 (slice_get b.entries i) && has_fuse 2 (slice_get b.entries (suc i))
    && (is_apart_from (answer_by b i) s || (is_none (answer_by b i) && not (same_status s missing_fused)))

-- There is this entry, which has number j, and its completion can't have this status and so many bytes of data.
abbrev pub entry_wrong_by : ConfigNumbers → QueueBook → ℕ → Option Submission → Status → ℕ → Bool
entry_wrong_by c b j None s n = false
entry_wrong_by c b j (Some entry) s n =
    not (first_by c b j entry s || second_by c b j entry s) || owes_other_data (Some entry) s n

-- The completion answers no entry that waits, or one that can't be answered so.
abbrev pub answer_wrong_by : ConfigNumbers → QueueBook → Option ℕ → Status → ℕ → Bool
answer_wrong_by c b None s n = true
answer_wrong_by c b (Some j) s n = entry_wrong_by c b j (slice_get b.entries j) s n || second_wrong_by b j s

-- Its SQHD is no slot, or as many entries as it says at least aren't published.
abbrev pub head_wrong_by : ConfigNumbers → QueueBook → ReapedLine → Bool
head_wrong_by c b r = not (nat_lt (cqe_fields r.cqe).sqhd c.sq_size) || nat_lt (length b.entries) (least_by c b r)

-- A completion is bad behind these lines, by what is kept of the submission queue that it names, by how many
-- completions were reaped from its completion queue, and by whether no CID was published again while it waited.
abbrev pub is_bad_by : ConfigNumbers → QueueBook → ℕ → Bool → ReapedLine → Bool
is_bad_by c b reaped tidy r =
    sets_unused_bits r || not ((cqe_fields r.cqe).phase == phase reaped c.cq_size) || names_wrong_queue c r
    || (tidy && (head_wrong_by c b r
    || answer_wrong_by c b (answered_by b r) (cqe_status r.cqe) (length r.payload)))

-- It breaks one of the rules that ask which entry it answers, as options read a trace: SQHD is asked where it isn't
-- ignored, the status and the data where not any status will do.
abbrev pub read_wrong_by : TraceOptions → ConfigNumbers → QueueBook → ReapedLine → Bool
read_wrong_by o c b r =
    is_none (answered_by b r) || (not o.ignored.sqhd && head_wrong_by c b r)
    || (not o.statuses_any && answer_wrong_by c b (answered_by b r) (cqe_status r.cqe) (length r.payload))

-- A completion is bad behind these lines, as options read them, by the same.
abbrev pub is_bad_read_by : TraceOptions → ConfigNumbers → QueueBook → ℕ → Bool → ReapedLine → Bool
is_bad_read_by o c b reaped tidy r =
    is_lacked o c (Seen.Reaped r) || sets_read_bits o r
    || (is_apart o c && not ((cqe_fields r.cqe).phase == phase reaped c.cq_size)) || names_wrong_queue c r
    || (tidy && read_wrong_by o c b r)
