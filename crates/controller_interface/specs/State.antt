-- What a controller is, and what a step does to it.
use Rattle.std.specs.Result.{result_map_both}
use Rattle.std.specs.Prelude.{Bool, Err, List, None, Ok, Option, Result, Some, false, slice_get, true, unwrap_or}
use Rattle.std.specs.Prelude.{ℕ, [], ◌+◌, ◌++◌, ◌-◌, ◌^◌, ◌<◌, ◌≤◌, ◌∷◌, ◌≡◌, ◌⊎◌}
use Rattle.nvme_model.specs.Completions.{posted_completions, reaped_count, reaped_payload}
use Rattle.nvme_model.specs.EntryBytes.{block_count, slba}
use Rattle.nvme_model.specs.History.{Past}
use Rattle.nvme_model.specs.Open.{has_ended, unit_range}
use Rattle.nvme_model.specs.Operations.{op}
use Rattle.nvme_model.specs.Refusals.{refusal}
use Rattle.nvme_model.specs.Steps.{next_entry}
use Rattle.nvme_model.specs.Tickets.{Ticket, fetched_ticket, first_fields, next_verdict, ticket}
use Rattle.nvme_model.specs.declared.array.Range.{Range}
use Rattle.nvme_model.specs.declared.config.ConfigNumbers.{ConfigNumbers}
use Rattle.nvme_model.specs.declared.entry.BlockLine.{BlockLine}
use Rattle.nvme_model.specs.declared.entry.Entry.{Entry}
use Rattle.nvme_model.specs.declared.operation.Op.{Op}
use Rattle.nvme_model.specs.declared.refusal.Why.{Why}
use Rattle.nvme_model.specs.declared.status.Verdict.{Verdict}
use Rattle.nvme_model.specs.declared.step.Step.{Step}
use Rattle.nvme_model.specs.declared.submission.Submission.{Submission}
use Rattle.block_exec.specs.declared.run.Done.{Done}
use Rattle.fused_match.specs.declared.judged.Judged.{Judged}
use Rattle.controller_interface.specs.declared.answer.Answer.{Answer}
use Rattle.controller_interface.specs.declared.answer.Refused.{Refused}
use Rattle.controller_interface.specs.Works.{TicketWork}

-- how many entries of the history, and how many ranges of open units, need no memory
pub record Room : Type 0 where
  pub entries : ℕ
  pub ranges : ℕ

-- a controller: its configuration; its history, and how many of the oldest entries it has forgotten; how many of the
-- next Grants, Blocks and Reaps have their memory; and the room that is there
pub record ControllerState : Type 0 where
  pub config : ConfigNumbers
  pub past : Past
  pub forgotten : ℕ
  pub promised : ℕ
  pub room : Room

-- ---- what is answered

-- the blocks that a ticket's first command names
abbrev pub ticket_range : Ticket → Range
ticket_range k = record { slba = slba (first_fields k); blocks = block_count (first_fields k) }

-- what a Fetch finds of one command that passed its checks
abbrev pub judged_by : Ticket → Option Op → Judged
judged_by k None = Judged.Flush
judged_by k (Some o) = Judged.Single o (ticket_range k)

-- what a Fetch finds of a ticket's commands
abbrev pub judged_of : Ticket → Verdict → Judged
judged_of k Verdict.Single = judged_by k (op k)
judged_of k Verdict.Pair = Judged.Pair (ticket_range k)
judged_of k (Verdict.SingleFailed s) = Judged.SingleFailed s
judged_of k (Verdict.PairFailed s r) = Judged.PairFailed s r

-- the work of a ticket of this number
abbrev pub work_of : ConfigNumbers → ℕ → Ticket → TicketWork
work_of c t k = record { ticket = t; atomic = c.atomic; judged = judged_of k k.verdict }

-- what a Block did
abbrev pub done_of : Past → BlockLine → Done
done_of past b =
    record {
      lba = b.lba;
      found = b.found;
      effect = b.effect;
      ended = has_ended (Entry.Block b ∷ past) b.ticket b.unit (unit_range past b.ticket b.unit).blocks;
    }

-- what is answered for an entry behind this history
abbrev pub answer_of : ConfigNumbers → Past → Entry → Answer
answer_of c past (Entry.Publish p) = Answer.Published
answer_of c past (Entry.Fetch f) = Answer.Fetched (work_of c f.ticket (fetched_ticket past f.queue f.verdict))
answer_of c past (Entry.Grant g) = Answer.Granted g.unit g.range g.mode
answer_of c past (Entry.Block b) = Answer.Blocked (done_of past b)
answer_of c past (Entry.Post p) = Answer.Posted p.cqe
answer_of c past (Entry.Reap r) =
    Answer.Reaped r.cqe (reaped_payload (slice_get (posted_completions c past r.queue) (reaped_count past r.queue)))

-- ---- what a step does

-- an accepted Grant, Block or Reap uses one promise, where there is one
abbrev pub promised_after : Step → ℕ → ℕ
promised_after (Step.Grant t) n = n - 1
promised_after (Step.Block t) n = n - 1
promised_after (Step.Reap q) n = n - 1
promised_after _ n = n

-- after an accepted step, with this room
abbrev pub state_after : ControllerState → Step → Room → ControllerState
state_after x step room =
    record x { past = next_entry x.config x.past step ∷ x.past; promised = promised_after step x.promised; room = room }

-- how many ranges a step takes the room of
abbrev pub ranges_taken : Step → ℕ
ranges_taken (Step.Grant t) = 1
ranges_taken _ = 0

-- an accepted step takes the room of one entry at most, and a Grant that of one range
pub record TakesRoom (step : Step) (old new : Room) : Type 0 where
  pub entries : old.entries ≤ new.entries + 1
  pub ranges : old.ranges ≤ new.ranges + ranges_taken step

-- there is no less room than before
pub record KeepsRoom (old new : Room) : Type 0 where
  pub entries : old.entries ≤ new.entries
  pub ranges : old.ranges ≤ new.ranges

-- what is promised has its room
pub record HasPromised (x : ControllerState) : Type 0 where
  pub entries : x.promised ≤ x.room.entries
  pub ranges : x.promised ≤ x.room.ranges

-- there is not the room for so many entries and ranges: no memory has it for 2^64 - 1
abbrev pub LacksRoom : Room → ℕ → Type 0
LacksRoom room n = (room.entries < n) ⊎ (room.ranges < n) ⊎ (2 ^ 64 ≤ n + 1)

-- a refused batch comes back
abbrev pub refused_as : Step → Why → Refused
refused_as (Step.Publish q batch) why = Refused.Publish why batch
refused_as _ why = Refused.Step why

-- the data of a ticket that does this needs memory of its own: a Read's, and that which a Write or a pair writes
abbrev pub needs_data : Option Op → Bool
needs_data (Some Op.Read) = true
needs_data (Some Op.Write) = true
needs_data (Some Op.Pair) = true
needs_data _ = false

-- A step that nothing refuses is answered want of memory only for a cause: a Grant, a Block or a Reap where nothing is
-- promised and there is no room for it; a Fetch or a Post where all room is promised, or where the data needs memory of
-- its own, which is so at the Fetch of a Read, a Write or a pair, and at the Post of a Read. A Publish always needs
-- memory for its batch.
abbrev pub WantsMemory : ControllerState → Step → Type 0
WantsMemory x (Step.Grant t) =
    refusal x.config x.past (Step.Grant t) ≡ None →
    (x.promised ≡ 0) × ((x.room.entries ≡ 0) ⊎ (x.room.ranges ≡ 0))
WantsMemory x (Step.Block t) = refusal x.config x.past (Step.Block t) ≡ None → (x.promised ≡ 0) × (x.room.entries ≡ 0)
WantsMemory x (Step.Reap q) = refusal x.config x.past (Step.Reap q) ≡ None → (x.promised ≡ 0) × (x.room.entries ≡ 0)
WantsMemory x (Step.Fetch q) =
    refusal x.config x.past (Step.Fetch q) ≡ None →
    (x.room.entries ≤ x.promised) ⊎ (needs_data (op (fetched_ticket x.past q (next_verdict x.config x.past q))) ≡ true)
WantsMemory x (Step.Post t) =
    refusal x.config x.past (Step.Post t) ≡ None → (x.room.entries ≤ x.promised) ⊎ (op (ticket x.past t) ≡ Some Op.Read)
WantsMemory x (Step.Publish q batch) = Unit {0}

-- a step that is accepted behind this history: nothing refuses it, this is the entry that it adds, and the answer is
-- what that says
abbrev pub Accepts : ConfigNumbers → Past → Step → Entry → Answer → Type 0
Accepts c past step e a = (refusal c past step ≡ None) × (e ≡ next_entry c past step) × (a ≡ answer_of c past e)

-- one that is refused: the first refusal that holds is answered, or want of memory where none does
abbrev pub Refuses : ConfigNumbers → Past → Step → Refused → Type 0
Refuses c past step r = r ≡ refused_as step (unwrap_or (refusal c past step) Why.NoMemory)

-- A step is accepted, and then adds its entry; or it is refused, and nothing has changed, but that there may be more
-- room.
abbrev pub Serves : ControllerState → Step → Result Answer Refused → ControllerState → Type 0
Serves old step (Ok a) new =
    Accepts old.config old.past step (next_entry old.config old.past step) a
    × (new ≡ state_after old step new.room) × TakesRoom step old.room new.room
Serves old step (Err r) new =
    Refuses old.config old.past step r
    × (new ≡ record old { room = new.room }) × KeepsRoom old.room new.room × WantsMemory old step

-- the same of a call of one kind of steps: its answer is this one, and its refusal hands nothing back
abbrev pub Does : {X : Type 0} → (X → Answer) → ControllerState → Step → Result X Why → ControllerState → Type 0
Does answer old step r new = Serves old step (result_map_both answer (refused_as step) r) new

-- the same of a Publish, whose refusal hands the batch back
abbrev pub DoesPublish : ControllerState → Step → Result (Unit {0}) (Why × List Submission) → ControllerState → Type 0
DoesPublish old step r new =
    Serves old step (result_map_both (λ _. Answer.Published) (λ e. Refused.Publish e.0 e.1) r) new

-- these answers, one for each step in order, lead from one controller to the other
abbrev pub RunsSteps : ControllerState → List Step → List (Result Answer Refused) → ControllerState → Type 0
RunsSteps old [] [] new = new ≡ old
RunsSteps old (step ∷ steps) (r ∷ rs) new = (mid : ControllerState) × Serves old step r mid × RunsSteps mid steps rs new
RunsSteps old [] (r ∷ rs) new = ⊥
RunsSteps old (step ∷ steps) [] new = ⊥

-- the list of answers has grown by one for each step
abbrev pub RunsOnto : ControllerState → List Step → List (Result Answer Refused) → List (Result Answer Refused)
    → ControllerState → Type 0
RunsOnto old steps before out new =
    (answers : List (Result Answer Refused)) × (out ≡ before ++ answers) × RunsSteps old steps answers new
