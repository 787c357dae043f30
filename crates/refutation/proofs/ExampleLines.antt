-- Lines that the rules refute, and their neighbours that they don't.
use Rattle.std.specs.Prelude.{List, [], false, refl, replicate, true, ℕ, ◌∷◌, ◌≡◌}
use Rattle.nvme_model.specs.Examples.{cqe, default, one, pair_on_3, submit}
use Rattle.nvme_model.specs.declared.entry.PublishLine.{PublishLine}
use Rattle.nvme_model.specs.declared.submission.Submission.{Submission}
use Rattle.trace.specs.declared.seen.ReapedLine.{ReapedLine}
use Rattle.trace.specs.declared.seen.Seen.{Seen}
use Rattle.refutation.specs.Lines.{is_tidy}
use Rattle.refutation.specs.LineRules.{has_wrong_batch, has_wrong_head, has_wrong_phase, is_bad_line}
use Rattle.refutation.specs.LineRules.{names_no_entry}
use Rattle.refutation.specs.LineRules.{names_wrong_queue, sets_unused_bits}

-- a Reap of completion queue n without data
abbrev reaped : ℕ → List ℕ → ReapedLine
reaped n bytes = record { queue = n; cqe = bytes; payload = [] }

-- a Publish of one Flush with this CID to queue q, and its completion by itself, with this SQHD and this low byte of
-- its status
abbrev flush : ℕ → ℕ → Seen
flush q cid = Seen.Published (record { queue = q; batch = submit 0 0 cid 0 0 [] ∷ [] })

abbrev flushed : ℕ → ℕ → ℕ → ℕ → ReapedLine
flushed q head cid low = reaped q (cqe head 0 q 0 cid 0 low 0)

-- ---- unused bits

-- Do Not Retry is set, or not
pub retry : sets_unused_bits (reaped 1 (cqe 1 0 1 0 7 0 1 0x80)) ≡ true
retry = refl

pub no_retry : sets_unused_bits (reaped 1 (cqe 1 0 1 0 7 0 1 0)) ≡ false
no_retry = refl

-- ---- the phase tag

-- four slots go round: the fifth completion has phase 0 again
abbrev four_flushes : List Seen
four_flushes =
    Seen.Reaped (flushed 1 0 4 1) ∷ flush 1 4 ∷ Seen.Reaped (flushed 1 3 3 1) ∷ flush 1 3
    ∷ Seen.Reaped (flushed 1 2 2 1) ∷ flush 1 2 ∷ Seen.Reaped (flushed 1 1 1 1) ∷ flush 1 1 ∷ []

pub same_phase : has_wrong_phase default (flush 1 5 ∷ four_flushes) (flushed 1 1 5 1) ≡ true
same_phase = refl

pub next_phase : has_wrong_phase default (flush 1 5 ∷ four_flushes) (flushed 1 1 5 0) ≡ false
next_phase = refl

-- the other completion queue counts its own
pub other_phase : has_wrong_phase default (flush 2 5 ∷ four_flushes) (flushed 2 1 5 1) ≡ false
other_phase = refl

-- ---- the submission queue

-- each of two submission queues has its own completion queue
pub own_queue : names_wrong_queue default (flushed 2 1 5 1) ≡ false
own_queue = refl

pub wrong_queue : names_wrong_queue default (reaped 1 (cqe 1 0 2 0 5 0 1 0)) ≡ true
wrong_queue = refl

-- there is no third
pub no_such_queue : names_wrong_queue default (reaped 1 (cqe 1 0 3 0 5 0 1 0)) ≡ true
no_such_queue = refl

-- ---- the entry

pub entry_waits : names_no_entry (flush 1 5 ∷ four_flushes) (flushed 1 1 5 0) ≡ false
entry_waits = refl

-- its completion was reaped before
pub entry_was_reaped : names_no_entry (flush 1 5 ∷ four_flushes) (flushed 1 1 4 0) ≡ true
entry_was_reaped = refl

-- that CID waits on the other queue
pub entry_of_another_queue : names_no_entry (flush 2 5 ∷ four_flushes) (flushed 1 1 5 0) ≡ true
entry_of_another_queue = refl

-- a CID that is published again while it waits makes a trace untidy, one that was reaped doesn't
pub twice_out : is_tidy (flush 1 5 ∷ flush 1 5 ∷ four_flushes) ≡ false
twice_out = refl

pub once_out : is_tidy (flush 2 5 ∷ flush 1 5 ∷ four_flushes) ≡ true
once_out = refl

-- ---- SQHD

-- the fifth entry of four slots is fetched
pub head_of_fifth : has_wrong_head default (flush 1 5 ∷ four_flushes) (flushed 1 1 5 0) ≡ false
head_of_fifth = refl

-- its own entry isn't fetched
pub head_before_entry : has_wrong_head default (flush 1 5 ∷ four_flushes) (flushed 1 0 5 0) ≡ true
head_before_entry = refl

-- six entries aren't published, or are
pub head_of_none : has_wrong_head default (flush 1 5 ∷ four_flushes) (flushed 1 2 5 0) ≡ true
head_of_none = refl

pub head_of_sixth : has_wrong_head default (flush 1 6 ∷ flush 1 5 ∷ four_flushes) (flushed 1 2 5 0) ≡ false
head_of_sixth = refl

-- there is no fifth slot
pub no_such_slot : has_wrong_head default (flush 1 6 ∷ flush 1 5 ∷ four_flushes) (flushed 1 4 5 0) ≡ true
no_such_slot = refl

-- six were fetched before
abbrev after_sixth : List Seen
after_sixth = Seen.Reaped (flushed 1 2 6 0) ∷ flush 1 6 ∷ flush 1 5 ∷ four_flushes

pub head_goes_back : has_wrong_head default after_sixth (flushed 1 1 5 0) ≡ true
head_goes_back = refl

pub head_stays : has_wrong_head default after_sixth (flushed 1 2 5 0) ≡ false
head_stays = refl

-- a pair that one line publishes is fetched whole, one of two lines needn't be
abbrev pair_alone : List Seen
pair_alone = Seen.Published (record { queue = 1; batch = pair_on_3 7 8 0 0xa1 }) ∷ []

pub head_parts_pair : has_wrong_head default pair_alone (flushed 1 1 7 1) ≡ true
head_parts_pair = refl

pub head_of_pair : has_wrong_head default pair_alone (flushed 1 2 7 1) ≡ false
head_of_pair = refl

abbrev pair_of_two : List Seen
pair_of_two =
    Seen.Published (record { queue = 1; batch = submit 1 2 8 3 0 (one 0xa1) ∷ [] })
    ∷ Seen.Published (record { queue = 1; batch = submit 5 1 7 3 0 (one 0) ∷ [] }) ∷ []

pub head_between : has_wrong_head default pair_of_two (flushed 1 1 7 1) ≡ false
head_between = refl

-- ---- a Publish

abbrev batch_to : ℕ → List Submission → PublishLine
batch_to q batch = record { queue = q; batch = batch }

-- four slots hold three entries
pub three_entries : has_wrong_batch default (batch_to 2 (replicate 3 (submit 0 0 1 0 0 []))) ≡ false
three_entries = refl

pub four_entries : has_wrong_batch default (batch_to 2 (replicate 4 (submit 0 0 1 0 0 []))) ≡ true
four_entries = refl

pub no_entry : has_wrong_batch default (batch_to 2 []) ≡ true
no_entry = refl

pub third_queue : has_wrong_batch default (batch_to 3 (submit 0 0 1 0 0 [] ∷ [])) ≡ true
third_queue = refl

-- ---- any line

pub bad_phase : is_bad_line default (Seen.Reaped (flushed 1 1 5 1) ∷ flush 1 5 ∷ four_flushes) ≡ true
bad_phase = refl

pub good_line : is_bad_line default (Seen.Reaped (flushed 1 1 5 0) ∷ flush 1 5 ∷ four_flushes) ≡ false
good_line = refl

-- 'LBA Out of Range' of a Flush
pub bad_status : is_bad_line default (Seen.Reaped (reaped 1 (cqe 1 0 1 0 5 0 0 1)) ∷ flush 1 5 ∷ four_flushes) ≡ true
bad_status = refl

-- where a CID is published twice, SQHD isn't asked
pub untidy_line : is_bad_line default (Seen.Reaped (flushed 1 2 5 0) ∷ flush 1 5 ∷ flush 1 5 ∷ four_flushes) ≡ false
untidy_line = refl
