-- What the answer to a call says of the history.
use Rattle.std.specs.Prelude.{Err, List, None, Ok, Option, Result, Some, false, slice_get, suc, true, ℕ, ◌==◌, ◌≡◌, ◌⊎◌}
use Rattle.std.specs.List.{list_all, list_any}
use Rattle.nvme_model.specs.EntryBytes.{sqe_fields}
use Rattle.nvme_model.specs.History.{Past}
use Rattle.nvme_model.specs.Open.{blocks_made, is_written}
use Rattle.nvme_model.specs.Operations.{op_of_fields}
use Rattle.nvme_model.specs.Owed.{units_of}
use Rattle.nvme_model.specs.Placed.{effect}
use Rattle.nvme_model.specs.Statuses.{compare_failure, is_success, same_status}
use Rattle.nvme_model.specs.declared.config.ConfigNumbers.{ConfigNumbers}
use Rattle.nvme_model.specs.declared.entry.PostLine.{PostLine}
use Rattle.nvme_model.specs.declared.operation.Op.{Op}
use Rattle.nvme_model.specs.declared.status.Status.{Status}
use Rattle.nvme_model.specs.declared.submission.Submission.{Submission}
use Rattle.host_laws.specs.Calls.{CompareDiffers, FailsChecks, IsDone, PairDiffers, PairSwaps, reaped_post, says_yes}
use Rattle.host_laws.specs.Calls.{cqe_status}
use Rattle.driver_calls.specs.Answers.{command_answer, pair_answer_of}
use Rattle.driver_calls.specs.Log.{newest, sent, state_of}
use Rattle.driver_calls.specs.declared.event.CidState.{CidState}
use Rattle.driver_calls.specs.declared.event.PortEvent.{PortEvent}
use Rattle.driver_calls.specs.declared.reply.Reply.{Reply}

-- ---- the answer, by what the port did

-- the answer to a command by itself, once its completion is reaped
abbrev pub one_outcome : Op → CidState → Option (Result Reply Status)
one_outcome o (CidState.Answered cqe payload) = Some (command_answer o (cqe_status cqe) payload)
one_outcome o _ = None

-- the answer to a fused pair, once both completions are reaped
abbrev pub pair_outcome : CidState → CidState → Option (Result Reply Status)
pair_outcome (CidState.Answered cqe payload) (CidState.Answered bytes second) =
    Some (pair_answer_of (cqe_status cqe) (cqe_status bytes))
pair_outcome _ _ = None

-- what a call of operation o on submission queue q is answered, whose entries have these CIDs (the second is of a pair
-- alone)
abbrev pub call_outcome : List PortEvent → ℕ → Op → ℕ → ℕ → Option (Result Reply Status)
call_outcome log q Op.Pair first second = pair_outcome (state_of log q first) (state_of log q second)
call_outcome log q o first second = one_outcome o (state_of log q first)

-- Entry j of a list is a command by itself that does o.
pub record IsSingleIn (entries : List Submission) (j : ℕ) (o : Op) : Type 0 where
  pub entry : Submission
  pub there : slice_get entries j ≡ Some entry
  pub not_first : ((sqe_fields entry.entry).fuse == 1) ≡ false
  pub not_second : ((sqe_fields entry.entry).fuse == 2) ≡ false
  pub does : op_of_fields (sqe_fields entry.entry) ≡ Some o

-- Entry j and the next are the first and the second of a fused pair.
pub record IsFusedIn (entries : List Submission) (j : ℕ) : Type 0 where
  pub first : Submission
  pub second : Submission
  pub first_there : slice_get entries j ≡ Some first
  pub second_there : slice_get entries (suc j) ≡ Some second
  pub first_fuse : ((sqe_fields first.entry).fuse == 1) ≡ true
  pub second_fuse : ((sqe_fields second.entry).fuse == 2) ≡ true

-- the call's entries are entry j, of a pair also the next, and no newer ones have their CIDs
abbrev pub IsCallIn : List PortEvent → ℕ → Op → ℕ → ℕ → ℕ → Type 0
IsCallIn log q Op.Pair first second j =
    IsFusedIn (sent log q) j × (newest log q first ≡ Some j) × (newest log q second ≡ Some (suc j))
IsCallIn log q o first second j = IsSingleIn (sent log q) j o × (newest log q first ≡ Some j)

-- ---- what it says of the history, where entry j of submission queue q is the call's first, and start is what was seen
-- when the call was started

-- the ticket has no effect at the start
abbrev pub IsAfter : Past → ℕ → Type 0
IsAfter start t = (u : ℕ) → effect start t u ≡ None

-- the effects that a reply names stand in the history, after the start
abbrev pub ReplySays : ConfigNumbers → Past → Past → ℕ → ℕ → Op → Reply → Type 0
ReplySays c start past q j Op.Read (Reply.Read bytes) = (d : IsDone c past q j Op.Read bytes) × IsAfter start d.ticket
ReplySays c start past q j Op.Write Reply.Written =
    (bytes : List ℕ) × (d : IsDone c past q j Op.Write bytes) × IsAfter start d.ticket
ReplySays c start past q j Op.WriteZeroes Reply.Written =
    (bytes : List ℕ) × (d : IsDone c past q j Op.WriteZeroes bytes) × IsAfter start d.ticket
ReplySays c start past q j Op.Compare Reply.Equal =
    (bytes : List ℕ) × (d : IsDone c past q j Op.Compare bytes)
    × (list_all (λ u. says_yes past d.ticket u.0) (units_of c past d.ticket) ≡ true) × IsAfter start d.ticket
ReplySays c start past q j Op.Compare Reply.Differs = (d : CompareDiffers c past q j) × IsAfter start d.ticket
ReplySays c start past q j Op.Pair Reply.Swapped = (d : PairSwaps past q j) × IsAfter start d.ticket
ReplySays c start past q j Op.Pair Reply.Differs =
    (d : PairDiffers past q j) × (list_any (λ b. is_written b.found) (blocks_made past d.ticket 0) ≡ false)
    × IsAfter start d.ticket
ReplySays c start past q j _ _ = ⊥

-- the completion of entry j was reaped, with this status, which isn't success
abbrev pub IsReapedWith : ConfigNumbers → Past → ℕ → ℕ → Status → Type 0
IsReapedWith c past q j s =
    (p : PostLine) × (reaped_post c past q j ≡ Some p) × (cqe_status p.cqe ≡ s) × (is_success s ≡ false)

-- the completion of this entry of a submission queue was reaped
abbrev pub IsEntryReaped : ConfigNumbers → Past → ℕ → ℕ → Type 0
IsEntryReaped c past q j = (p : PostLine) × (reaped_post c past q j ≡ Some p)

-- the completion of the call, of a pair that of its first, was reaped with this status, which isn't Compare Failure
-- either, and the command or the pair failed its checks
abbrev pub FailedSays : ConfigNumbers → Past → ℕ → ℕ → Status → Type 0
FailedSays c past q j s = IsReapedWith c past q j s × (same_status s compare_failure ≡ false) × FailsChecks past q j

-- all completions of a call were reaped: of a pair both
abbrev pub AllReaped : ConfigNumbers → Past → ℕ → ℕ → Op → Type 0
AllReaped c past q j Op.Pair = IsEntryReaped c past q j × IsEntryReaped c past q (suc j)
AllReaped c past q j o = IsEntryReaped c past q j

-- a completion of a call wasn't reaped
abbrev pub NotAllReaped : ConfigNumbers → Past → ℕ → ℕ → Op → Type 0
NotAllReaped c past q j Op.Pair = (reaped_post c past q j ≡ None) ⊎ (reaped_post c past q (suc j) ≡ None)
NotAllReaped c past q j o = reaped_post c past q j ≡ None

-- where there is no answer, not all completions of the call are reaped; else all are, and the answer is true
abbrev pub CallSays : ConfigNumbers → Past → Past → ℕ → ℕ → Op → Option (Result Reply Status) → Type 0
CallSays c start past q j o None = NotAllReaped c past q j o
CallSays c start past q j o (Some (Ok r)) = ReplySays c start past q j o r × AllReaped c past q j o
CallSays c start past q j o (Some (Err s)) = FailedSays c past q j s × AllReaped c past q j o
