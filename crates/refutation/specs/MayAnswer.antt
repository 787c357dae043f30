-- What an entry may be answered, by its own fields and those of its neighbours, where no CID is in use twice.
use Rattle.std.specs.Prelude.{Bool, List, None, Option, Some, [], false, length, nat_le, not, slice_get, suc, zero, ℕ}
use Rattle.std.specs.Prelude.{if◌then◌else◌, ◌&&◌, ◌*◌, ◌==◌, ◌||◌, ◌∷◌}
use Rattle.nvme_model.specs.Commands.{is_compare, is_read}
use Rattle.nvme_model.specs.EntryBytes.{Sqe, block_count, sqe_fields}
use Rattle.nvme_model.specs.Statuses.{compare_failure, failed_fused, is_success, same_status}
use Rattle.nvme_model.specs.Verdict.{item_of, verdict_of}
use Rattle.nvme_model.specs.declared.config.ConfigNumbers.{ConfigNumbers}
use Rattle.nvme_model.specs.declared.status.Status.{Status}
use Rattle.nvme_model.specs.declared.status.Verdict.{Verdict}
use Rattle.nvme_model.specs.declared.submission.Submission.{Submission}
use Rattle.trace.specs.declared.seen.Seen.{Seen}
use Rattle.refutation.specs.Lines.{before_entry, published_in}

-- One line publishes entry j of submission queue q and the next.
abbrev pub are_together : List Seen → ℕ → ℕ → Bool
are_together trace q j = nat_le (length (published_in (before_entry trace q (suc j)) q)) j

-- An entry has this FUSE, where there is one.
abbrev pub has_fuse : ℕ → Option Submission → Bool
has_fuse f None = false
has_fuse f (Some s) = (sqe_fields s.entry).fuse == f

-- So many entries of submission queue q end with the first of a pair, whose second the same line published. A Fetch
-- takes both.
abbrev pub parts_pair : List Seen → ℕ → ℕ → Bool
parts_pair trace q zero = false
parts_pair trace q (suc i) =
    has_fuse 1 (slice_get (published_in trace q) i) && has_fuse 2 (slice_get (published_in trace q) (suc i))
    && are_together trace q i

-- What a Fetch says that finds this entry at the front of its queue, and behind it this one or none, where none of
-- their CIDs is in use.
abbrev pub verdict_at : ConfigNumbers → Submission → Option Submission → Verdict
verdict_at c first None = verdict_of c.atomic c.blocks [] (item_of first ∷ [])
verdict_at c first (Some next) = verdict_of c.atomic c.blocks [] (item_of first ∷ item_of next ∷ [])

-- With this verdict the first command, which has these fields, may be answered so: a command that passed its checks by
-- success, a Compare or a pair also by Compare Failure, any other by the status of its first fault.
abbrev pub answers_first : Verdict → Sqe → Status → Bool
answers_first Verdict.Single e s = is_success s || (is_compare e && same_status s compare_failure)
answers_first (Verdict.SingleFailed x) e s = same_status s x
answers_first Verdict.Pair e s = is_success s || same_status s compare_failure
answers_first (Verdict.PairFailed x y) e s = same_status s x

-- And the second command so: that of a pair that passed its checks by success or by Command Aborted due to Failed Fused
-- Command.
abbrev pub answers_second : Verdict → Status → Bool
answers_second Verdict.Pair s = is_success s || same_status s failed_fused
answers_second (Verdict.PairFailed x y) s = same_status s y
answers_second _ s = false

-- A Fetch that begins at this entry, which has number j on submission queue q, may answer it so. Where the next entry
-- came by a later line, it may not have been there. None begins within a pair that one line published.
abbrev pub may_answer_first : ConfigNumbers → List Seen → ℕ → ℕ → Submission → Status → Bool
may_answer_first c trace q j first s =
    let e = sqe_fields first.entry in
    not (parts_pair trace q j)
    && (answers_first (verdict_at c first (slice_get (published_in trace q) (suc j))) e s
    || (not (are_together trace q j) && answers_first (verdict_at c first None) e s))

-- A Fetch that begins at the entry before this one may answer this one so.
abbrev pub may_answer_behind : ConfigNumbers → Option Submission → Submission → Status → Bool
may_answer_behind c None second s = false
may_answer_behind c (Some first) second s = answers_second (verdict_at c first (Some second)) s

-- The same, of the entry with number j on submission queue q.
abbrev pub may_answer_second : ConfigNumbers → List Seen → ℕ → ℕ → Submission → Status → Bool
may_answer_second c trace q zero second s = false
may_answer_second c trace q (suc i) second s = may_answer_behind c (slice_get (published_in trace q) i) second s

-- This entry, which has number j on submission queue q, may be answered so by the first or the second completion of a
-- Fetch.
abbrev pub may_answer : ConfigNumbers → List Seen → ℕ → ℕ → Submission → Status → Bool
may_answer c trace q j entry s = may_answer_first c trace q j entry s || may_answer_second c trace q j entry s

-- How many bytes of data lie beside a completion with this status of this entry: those of the blocks of a Read that
-- succeeded.
abbrev pub data_owed : Submission → Status → ℕ
data_owed entry s =
    let e = sqe_fields entry.entry in
    if is_success s && is_read e then 512 * block_count e else 0
