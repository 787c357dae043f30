-- What the newest line of a trace can't be in any history that explains it, whatever the controller did unseen.
use Rattle.std.specs.Prelude.{Bool, List, None, Option, Some, [], if◌then◌else◌, is_none, length, max, nat_lt, not}
use Rattle.std.specs.Prelude.{slice_get, suc, zero}
use Rattle.std.specs.Prelude.{ℕ, false}
use Rattle.std.specs.Prelude.{◌%◌, ◌+◌, ◌&&◌, ◌-◌, ◌==◌, ◌||◌, ◌∷◌}
use Rattle.nvme_model.specs.Completions.{phase}
use Rattle.nvme_model.specs.Config.{completion_queue}
use Rattle.nvme_model.specs.EntryBytes.{cqe_fields}
use Rattle.nvme_model.specs.Refusals.{no_queue}
use Rattle.nvme_model.specs.Statuses.{compare_failure, failed_fused, is_success, missing_fused, same_status}
use Rattle.nvme_model.specs.declared.config.ConfigNumbers.{ConfigNumbers}
use Rattle.nvme_model.specs.declared.entry.PublishLine.{PublishLine}
use Rattle.nvme_model.specs.declared.status.Status.{Status}
use Rattle.nvme_model.specs.declared.submission.Submission.{Submission}
use Rattle.host_laws.specs.Calls.{cqe_status, is_clean}
use Rattle.trace.specs.declared.seen.ReapedLine.{ReapedLine}
use Rattle.trace.specs.declared.seen.Seen.{Seen}
use Rattle.refutation.specs.Lines.{answer_in, answered, is_tidy, published_in, reaped_in}
use Rattle.refutation.specs.MayAnswer.{data_owed, has_fuse, may_answer, parts_pair}

-- The completion sets a bit that this profile leaves zero: in DW0 or DW1, the Command Retry Delay, More or Do Not
-- Retry.
abbrev pub sets_unused_bits : ReapedLine → Bool
sets_unused_bits r = not (is_clean r.cqe)

-- Its phase tag isn't that of the slot that comes next in its completion queue, behind those that these lines reap.
abbrev pub has_wrong_phase : ConfigNumbers → List Seen → ReapedLine → Bool
has_wrong_phase c trace r = not ((cqe_fields r.cqe).phase == phase (reaped_in trace r.queue) c.cq_size)

-- It names no submission queue that uses its completion queue.
abbrev pub names_wrong_queue : ConfigNumbers → ReapedLine → Bool
names_wrong_queue c r =
    let q = (cqe_fields r.cqe).sqid in
    no_queue c q || not (completion_queue c q == r.queue)

-- Behind these lines no entry waits under the submission queue and the CID that it names.
abbrev pub names_no_entry : List Seen → ReapedLine → Bool
names_no_entry trace r = is_none (answered trace r.cqe)

-- The least number from `low` on that is `head` modulo n.
abbrev pub next_at : ℕ → ℕ → ℕ → ℕ
next_at n low head = low + (head + (n - low % n)) % n

-- How many entries of a submission queue there are up to the one with this number, itself counted.
abbrev pub count_to : Option ℕ → ℕ
count_to None = 0
count_to (Some j) = suc j

-- This many, or, where that would part a pair, the next number that SQHD says so.
abbrev pub next_whole : ConfigNumbers → List Seen → ℕ → ℕ → ℕ → ℕ
next_whole c trace q head n = if parts_pair trace q n then next_at c.sq_size (suc n) head else n

-- How many entries of submission queue q were fetched, at least, when the newest completion of it that a trace reaps
-- was posted: SQHD says it modulo the slots, the completion's own entry is among them, it was never more before, and no
-- pair is parted.
abbrev pub least_fetched : ConfigNumbers → List Seen → ℕ → ℕ
least_fetched c [] q = 0
least_fetched c (Seen.Published p ∷ trace) q = least_fetched c trace q
least_fetched c (Seen.Reaped r ∷ trace) q =
    let e = cqe_fields r.cqe in
    if e.sqid == q
    then next_whole c trace q e.sqhd
    (next_at c.sq_size (max (least_fetched c trace q) (count_to (answered trace r.cqe))) e.sqhd)
    else least_fetched c trace q

-- Its SQHD is no slot, or as many entries as it says at least aren't published.
abbrev pub has_wrong_head : ConfigNumbers → List Seen → ReapedLine → Bool
has_wrong_head c trace r =
    let e = cqe_fields r.cqe in
    not (nat_lt e.sqhd c.sq_size)
    || nat_lt (length (published_in trace e.sqid)) (least_fetched c (Seen.Reaped r ∷ trace) e.sqid)

-- There is this entry, which has number j on submission queue q, and it may not be answered so.
abbrev pub may_not_answer : ConfigNumbers → List Seen → ℕ → ℕ → Option Submission → Status → Bool
may_not_answer c trace q j None s = false
may_not_answer c trace q j (Some entry) s = not (may_answer c trace q j entry s)

-- The same, of the number of an entry of submission queue q.
abbrev pub number_may_not : ConfigNumbers → List Seen → ℕ → Option ℕ → Status → Bool
number_may_not c trace q None s = false
number_may_not c trace q (Some j) s = may_not_answer c trace q j (slice_get (published_in trace q) j) s

-- Its status isn't one that the entry that it answers may be answered, by its own fields and those of its neighbours.
abbrev pub has_wrong_status : ConfigNumbers → List Seen → ReapedLine → Bool
has_wrong_status c trace r =
    number_may_not c trace (cqe_fields r.cqe).sqid (answered trace r.cqe) (cqe_status r.cqe)

-- The first command of a pair was answered so, and its second can't be answered so: both succeed, or the second is
-- aborted where the first has Compare Failure.
abbrev pub answers_apart : Status → Status → Bool
answers_apart first s =
    (is_success first && not (is_success s))
    || (same_status first compare_failure && not (same_status s failed_fused))

-- The same, of the line that answers the first, where there is one.
abbrev pub is_apart_from : Option ReapedLine → Status → Bool
is_apart_from None s = false
is_apart_from (Some r) s = answers_apart (cqe_status r.cqe) s

-- This entry of submission queue q and the one before it are the second and the first of a pair, and it can't be
-- answered so behind the first's answer.
abbrev pub is_second_apart : List Seen → ℕ → Option ℕ → Status → Bool
is_second_apart trace q None s = false
is_second_apart trace q (Some zero) s = false
is_second_apart trace q (Some (suc i)) s =
    has_fuse 1 (slice_get (published_in trace q) i) && has_fuse 2 (slice_get (published_in trace q) (suc i))
    && is_apart_from (answer_in trace q i) s

-- It answers the second command of a pair, and its status doesn't go with what the first was answered.
abbrev pub has_wrong_second : List Seen → ReapedLine → Bool
has_wrong_second trace r =
    is_second_apart trace (cqe_fields r.cqe).sqid (answered trace r.cqe) (cqe_status r.cqe)

-- This entry of submission queue q and the one before it are the second and the first of a pair, the first isn't
-- answered, and this isn't the answer of a second that was fetched alone.
abbrev pub is_second_early : List Seen → ℕ → Option ℕ → Status → Bool
is_second_early trace q None s = false
is_second_early trace q (Some zero) s = false
is_second_early trace q (Some (suc i)) s =
    has_fuse 1 (slice_get (published_in trace q) i) && has_fuse 2 (slice_get (published_in trace q) (suc i))
    && is_none (answer_in trace q i) && not (same_status s missing_fused)

-- It answers the second command of a pair before its first.
abbrev pub has_early_second : List Seen → ReapedLine → Bool
has_early_second trace r =
    is_second_early trace (cqe_fields r.cqe).sqid (answered trace r.cqe) (cqe_status r.cqe)

-- There is this entry, and so many bytes of data don't belong to its completion with this status.
abbrev pub owes_other_data : Option Submission → Status → ℕ → Bool
owes_other_data None s n = false
owes_other_data (Some entry) s n = not (n == data_owed entry s)

-- The same, of the number of an entry of submission queue q.
abbrev pub number_owes_other : List Seen → ℕ → Option ℕ → Status → ℕ → Bool
number_owes_other trace q None s n = false
number_owes_other trace q (Some j) s n = owes_other_data (slice_get (published_in trace q) j) s n

-- The data beside it isn't as long as the blocks of a Read that succeeded, or there is some beside another completion.
abbrev pub has_wrong_data : List Seen → ReapedLine → Bool
has_wrong_data trace r =
    number_owes_other trace (cqe_fields r.cqe).sqid (answered trace r.cqe) (cqe_status r.cqe) (length r.payload)

-- A Publish that no controller takes: to a submission queue that isn't there, of no entry, or of more than the queue's
-- slots hold.
abbrev pub has_wrong_batch : ConfigNumbers → PublishLine → Bool
has_wrong_batch c p = no_queue c p.queue || (length p.batch == 0) || nat_lt (c.sq_size - 1) (length p.batch)

-- It breaks one of the rules that ask which entry it answers.
abbrev pub breaks_entry_rules : ConfigNumbers → List Seen → ReapedLine → Bool
breaks_entry_rules c trace r =
    names_no_entry trace r || has_wrong_head c trace r || has_wrong_status c trace r || has_wrong_second trace r
    || has_early_second trace r || has_wrong_data trace r

-- The newest line of a trace is bad. Which entry a completion answers is asked behind lines that publish no CID again
-- while it waits.
abbrev pub is_bad_line : ConfigNumbers → List Seen → Bool
is_bad_line c [] = false
is_bad_line c (Seen.Published p ∷ trace) = has_wrong_batch c p
is_bad_line c (Seen.Reaped r ∷ trace) =
    sets_unused_bits r || has_wrong_phase c trace r || names_wrong_queue c r
    || (is_tidy trace && breaks_entry_rules c trace r)
