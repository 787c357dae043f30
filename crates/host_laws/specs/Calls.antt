-- The entries of a submission queue by their numbers there, from 0: which ticket took one, and which reaped completion
-- answers it.
use Rattle.std.specs.Prelude.{not, suc, Bool, List, None, Option, Some, [], false, if◌then◌else◌, is_some, nat_le}
use Rattle.std.specs.Prelude.{nat_lt, slice_get, true, ℕ, ◌&&◌, ◌||◌, ◌+◌, ◌++◌, ◌==◌, ◌∷◌, ◌≡◌, ◌≤◌, ◌<◌}
use Rattle.std.specs.List.{list_all, list_any}
use Rattle.nvme_model.specs.Answered.{says_no}
use Rattle.nvme_model.specs.Completions.{posted_completions, reaped_count}
use Rattle.nvme_model.specs.Config.{completion_queue}
use Rattle.nvme_model.specs.EntryBytes.{cqe_fields, sqe_fields}
use Rattle.nvme_model.specs.History.{Past}
use Rattle.nvme_model.specs.Open.{blocks_of, unit_range}
use Rattle.nvme_model.specs.Operations.{has_compare, op, op_of_fields}
use Rattle.nvme_model.specs.Owed.{completion_data, some_no, units_of}
use Rattle.nvme_model.specs.Placed.{effect}
use Rattle.nvme_model.specs.Queues.{published_entries}
use Rattle.nvme_model.specs.Slots.{fetched_before, next_number}
use Rattle.nvme_model.specs.Statuses.{cid_conflict, compare_failure, data_transfer_error, failed_fused, invalid_field}
use Rattle.nvme_model.specs.Statuses.{invalid_namespace, invalid_opcode, is_success, missing_fused, out_of_range}
use Rattle.nvme_model.specs.Statuses.{same_status, success, unit_exceeded}
use Rattle.nvme_model.specs.Tickets
use Rattle.nvme_model.specs.Tickets.{Ticket, command, tickets}
use Rattle.nvme_model.specs.Value.{all_equal, value}
use Rattle.nvme_model.specs.Verdict.{has_invalid_field, passed, taken_entries}
use Rattle.nvme_model.specs.declared.array.Range.{Range}
use Rattle.nvme_model.specs.declared.config.ConfigNumbers.{ConfigNumbers}
use Rattle.nvme_model.specs.declared.entry.Entry.{Entry}
use Rattle.nvme_model.specs.declared.entry.PostLine.{PostLine}
use Rattle.nvme_model.specs.declared.entry.ReapLine.{ReapLine}
use Rattle.nvme_model.specs.declared.operation.Op.{Op}
use Rattle.nvme_model.specs.declared.status.Status.{Status}
use Rattle.nvme_model.specs.declared.submission.Submission.{Submission}

-- ticket t has taken entry j of submission queue q
abbrev pub takes : Past → ℕ → ℕ → ℕ → Bool
takes past t q j =
    let k = Tickets.ticket past t in
    let first = fetched_before past t in
    nat_le 1 t && nat_le t (tickets past) && (k.queue == q) && nat_le first j
    && nat_lt j (first + taken_entries k.verdict)

-- Entry j of submission queue q is published, as a command by itself that does o.
pub record IsSingle (past : Past) (q j : ℕ) (o : Op) : Type 0 where
  pub entry : Submission
  pub published : slice_get (published_entries past q) j ≡ Some entry
  pub not_first : ((sqe_fields entry.entry).fuse == 1) ≡ false
  pub not_second : ((sqe_fields entry.entry).fuse == 2) ≡ false
  pub does : op_of_fields (sqe_fields entry.entry) ≡ Some o

-- Entry j of submission queue q and the next are published, as the first and the second of a fused pair.
pub record IsFused (past : Past) (q j : ℕ) : Type 0 where
  pub first : Submission
  pub second : Submission
  pub first_published : slice_get (published_entries past q) j ≡ Some first
  pub second_published : slice_get (published_entries past q) (suc j) ≡ Some second
  pub first_fuse : ((sqe_fields first.entry).fuse == 1) ≡ true
  pub second_fuse : ((sqe_fields second.entry).fuse == 2) ≡ true

-- A posted completion, with the submission queue and the number there of the entry that it is for.
pub record PostedAnswer : Type 0 where
  pub queue : ℕ
  pub number : ℕ
  pub post : PostLine

-- that of a Post
abbrev pub posted_answer : Past → PostLine → PostedAnswer
posted_answer past p =
    record { queue = (Tickets.ticket past p.ticket).queue; number = next_number past p.ticket; post = p }

-- the completions posted to completion queue q, in order
abbrev pub posted_answers : ConfigNumbers → Past → ℕ → List PostedAnswer
posted_answers c [] q = []
posted_answers c (Entry.Post p ∷ past) q =
    posted_answers c past q
    ++ (if completion_queue c (Tickets.ticket past p.ticket).queue == q then posted_answer past p ∷ [] else [])
posted_answers c (_ ∷ past) q = posted_answers c past q

-- the Post of this completion if it is for entry j of submission queue q, else what was before
abbrev pub post_if : ℕ → ℕ → Option PostedAnswer → Option PostLine → Option PostLine
post_if q j None before = before
post_if q j (Some a) before = if (a.queue == q) && (a.number == j) then Some a.post else before

-- the Post of the completion for entry j of submission queue q, once it was reaped
abbrev pub reaped_post : ConfigNumbers → Past → ℕ → ℕ → Option PostLine
reaped_post c [] q j = None
reaped_post c (Entry.Reap r ∷ past) q j =
    post_if q j (slice_get (posted_answers c past r.queue) (reaped_count past r.queue)) (reaped_post c past q j)
reaped_post c (_ ∷ past) q j = reaped_post c past q j

-- the status that a completion's bytes say
abbrev pub cqe_status : List ℕ → Status
cqe_status cqe = record { sct = (cqe_fields cqe).sct; sc = (cqe_fields cqe).sc }

-- no field of the completion is set that this profile leaves zero
abbrev pub is_clean : List ℕ → Bool
is_clean cqe =
    let e = cqe_fields cqe in
    (e.dw0 == 0) && (e.dw1 == 0) && (e.crd == 0) && (e.more == 0) && (e.dnr == 0)

-- it is the status of a command that fails its checks
abbrev pub is_fault : Status → Bool
is_fault s =
    list_any (same_status s)
    (invalid_opcode ∷ invalid_field ∷ cid_conflict ∷ data_transfer_error ∷ failed_fused ∷ missing_fused
    ∷ invalid_namespace ∷ out_of_range ∷ unit_exceeded ∷ [])

-- it is one that a completion may say: success, Compare Failure, or that of a command that fails its checks
abbrev pub is_known : Status → Bool
is_known s = is_success s || same_status s compare_failure || is_fault s

-- the entry names the one namespace, and has zeros where this profile wants them
abbrev pub is_proper : Submission → Bool
is_proper s = ((sqe_fields s.entry).nsid == 1) && not (has_invalid_field (sqe_fields s.entry))

-- Entry j of submission queue q and the next are published, and both are so.
pub record IsProperPair (past : Past) (q j : ℕ) : Type 0 where
  pub first : Submission
  pub second : Submission
  pub first_published : slice_get (published_entries past q) j ≡ Some first
  pub second_published : slice_get (published_entries past q) (suc j) ≡ Some second
  pub first_proper : is_proper first ≡ true
  pub second_proper : is_proper second ≡ true

-- the effect with this before it says yes
abbrev pub yes_at : Option Past → Ticket → Range → Bool
yes_at None k r = false
yes_at (Some before) k r = has_compare (op k) && all_equal (value before) k r

-- the effect of unit u of ticket t says yes
abbrev pub says_yes : Past → ℕ → ℕ → Bool
says_yes past t u = yes_at (effect past t u) (Tickets.ticket past t) (unit_range past t u)

-- ---- what a completion says of entry j of submission queue q, where a pair is named by its first entry: the ticket
-- that took it, with the commands that were published there

-- a yes effect of the pair stands there
pub record PairSwaps (past : Past) (q j : ℕ) : Type 0 where
  pub ticket : ℕ
  pub takes : takes past ticket q j ≡ true
  pub first : slice_get (published_entries past q) j ≡ Some (command (Tickets.ticket past ticket) 0)
  pub second : slice_get (published_entries past q) (suc j) ≡ Some (command (Tickets.ticket past ticket) 1)
  pub pair : op (Tickets.ticket past ticket) ≡ Some Op.Pair
  pub yes : says_yes past ticket 0 ≡ true

-- a no effect of the pair stands there
pub record PairDiffers (past : Past) (q j : ℕ) : Type 0 where
  pub ticket : ℕ
  pub takes : takes past ticket q j ≡ true
  pub first : slice_get (published_entries past q) j ≡ Some (command (Tickets.ticket past ticket) 0)
  pub second : slice_get (published_entries past q) (suc j) ≡ Some (command (Tickets.ticket past ticket) 1)
  pub pair : op (Tickets.ticket past ticket) ≡ Some Op.Pair
  pub no : says_no past ticket 0 ≡ true

-- its ticket does o, an effect of each unit stands there and none says no, and this is the data that the ticket owes
pub record IsDone (c : ConfigNumbers) (past : Past) (q j : ℕ) (o : Op) (contents : List ℕ) : Type 0 where
  pub ticket : ℕ
  pub takes : takes past ticket q j ≡ true
  pub first : slice_get (published_entries past q) j ≡ Some (command (Tickets.ticket past ticket) 0)
  pub does : op (Tickets.ticket past ticket) ≡ Some o
  pub effects : list_all (λ u. is_some (effect past ticket u.0)) (units_of c past ticket) ≡ true
  pub none_no : some_no c past ticket ≡ false
  pub reads : contents ≡ completion_data c past ticket success

-- its ticket is a Compare, and a no effect of one of its units stands there
pub record CompareDiffers (c : ConfigNumbers) (past : Past) (q j : ℕ) : Type 0 where
  pub ticket : ℕ
  pub takes : takes past ticket q j ≡ true
  pub first : slice_get (published_entries past q) j ≡ Some (command (Tickets.ticket past ticket) 0)
  pub compares : op (Tickets.ticket past ticket) ≡ Some Op.Compare
  pub no : some_no c past ticket ≡ true

-- it failed its checks, and has no Block
pub record FailsChecks (past : Past) (q j : ℕ) : Type 0 where
  pub ticket : ℕ
  pub takes : takes past ticket q j ≡ true
  pub first : slice_get (published_entries past q) j ≡ Some (command (Tickets.ticket past ticket) 0)
  pub failed : passed (Tickets.ticket past ticket).verdict ≡ false
  pub idle : blocks_of past ticket ≡ 0

-- the one entry that a Reap answers, named by its submission queue and its number there
pub record ReapAnswers (c : ConfigNumbers) (past : Past) (r : ReapLine) : Type 0 where
  pub queue : ℕ
  pub number : ℕ
  pub post : PostLine
  pub posted : slice_get (posted_completions c past r.queue) (reaped_count past r.queue) ≡ Some post
  pub cqe : post.cqe ≡ r.cqe
  pub own : completion_queue c queue ≡ r.queue
  pub some : 1 ≤ queue
  pub few : queue ≤ c.pairs
  pub entry : Submission
  pub published : slice_get (published_entries past queue) number ≡ Some entry
  pub clean : is_clean r.cqe ≡ true
  pub sqid : queue < 65536 → (cqe_fields r.cqe).sqid ≡ queue
  pub cid : (sqe_fields entry.entry).cid < 65536 → (cqe_fields r.cqe).cid ≡ (sqe_fields entry.entry).cid
  pub unreaped : reaped_post c past queue number ≡ None
  pub reaped : reaped_post c (Entry.Reap r ∷ past) queue number ≡ Some post
  pub others : (q j : ℕ) → (q ≡ queue → j ≡ number → ⊥) →
      reaped_post c (Entry.Reap r ∷ past) q j ≡ reaped_post c past q j

-- entry j of submission queue q has this CID, and its completion isn't reaped
pub record IsEntryWaiting (c : ConfigNumbers) (past : Past) (q cid j : ℕ) : Type 0 where
  pub entry : Submission
  pub published : slice_get (published_entries past q) j ≡ Some entry
  pub says : (sqe_fields entry.entry).cid ≡ cid
  pub unreaped : reaped_post c past q j ≡ None
