-- What refuses a step, read off the history.
use Rattle.std.specs.List.{count_by, list_any}
use Rattle.std.specs.Prelude.{Bool, List, None, Option, Some, [], false, length, nat_le, nat_lt, not, slice_get, true}
use Rattle.std.specs.Prelude.{ℕ, ◌&&◌, ◌+◌, ◌-◌, ◌==◌, ◌||◌, ◌∷◌}
use Rattle.nvme_model.specs.Completions.{posted_completions, reaped_count}
use Rattle.nvme_model.specs.Config.{completion_queue}
use Rattle.nvme_model.specs.declared.config.ConfigNumbers.{ConfigNumbers}
use Rattle.nvme_model.specs.History.{Past}
use Rattle.nvme_model.specs.Open.{conflict, differed, grants_of, open_units}
use Rattle.nvme_model.specs.Operations.{mode, op, units}
use Rattle.nvme_model.specs.Owed.{all_ended}
use Rattle.nvme_model.specs.Queues.{fetched_count, published_entries}
use Rattle.nvme_model.specs.Tables.{first_row}
use Rattle.nvme_model.specs.Tickets.{in_flight, numbers_down, ticket, tickets}
use Rattle.nvme_model.specs.Verdict.{passed}
use Rattle.nvme_model.specs.declared.array.Mode.{Mode}
use Rattle.nvme_model.specs.declared.operation.Op.{Op}
use Rattle.nvme_model.specs.declared.array.Range.{Range}
use Rattle.nvme_model.specs.declared.step.Step.{Step}
use Rattle.nvme_model.specs.declared.refusal.Why.{Why}

-- there is no such submission queue
abbrev pub no_queue : ConfigNumbers → ℕ → Bool
no_queue c q = (q == 0) || nat_lt c.pairs q

-- there is no such completion queue
abbrev pub no_completion_queue : ConfigNumbers → ℕ → Bool
no_completion_queue c q = (q == 0) || nat_lt c.cqs q

-- as many tickets are in flight as may be
abbrev pub jobs_full : ConfigNumbers → Past → Bool
jobs_full c past = nat_le c.jobs (count_by (in_flight past) (numbers_down (tickets past)))

-- a unit of ticket t is open
abbrev pub has_open : Past → ℕ → Bool
has_open past t = list_any (λ g. g.ticket == t) (open_units past)

-- the unit that a Grant of ticket t would open
abbrev pub next_unit : ConfigNumbers → Past → ℕ → Option Range
next_unit c past t = slice_get (units c (ticket past t)) (grants_of past t)

-- ticket t has no unit left to open
abbrev pub none_left : ConfigNumbers → Past → ℕ → Bool
none_left c past t = nat_le (length (units c (ticket past t))) (grants_of past t) || differed past t

-- the unit that is next conflicts with an open one
abbrev pub conflicts_open : Past → Mode → Option Range → Bool
conflicts_open past m None = false
conflicts_open past m (Some r) = list_any (λ g. conflict r m g.range g.mode) (open_units past)

-- it does nothing
abbrev pub is_flush_ticket : Option Op → Bool
is_flush_ticket None = true
is_flush_ticket (Some o) = false

-- it passed its checks, isn't a Flush, and neither have all its units ended nor has a `differs` come
abbrev pub owes_nothing_yet : ConfigNumbers → Past → ℕ → Bool
owes_nothing_yet c past t =
    let k = ticket past t in
    passed k.verdict && not (is_flush_ticket (op k)) && not (all_ended c past t || differed past t)

-- The conditions of each step, in order (this profile's; a queue that is full: Base 2.0, Full Queue; one that is empty:
-- Base 2.0, Empty Queue).
abbrev pub conditions : ConfigNumbers → Past → Step → List (Bool × Why)
conditions c past (Step.Publish q batch) =
    (no_queue c q, Why.NoQueue)
    ∷ (length batch == 0, Why.BadBatch)
    ∷ (nat_lt (c.sq_size - 1) (length (published_entries past q) - fetched_count past q + length batch), Why.NoRoom)
    ∷ []
conditions c past (Step.Fetch q) =
    (no_queue c q, Why.NoQueue)
    ∷ (length (published_entries past q) == fetched_count past q, Why.NoEntry)
    ∷ (jobs_full c past, Why.JobsFull)
    ∷ []
conditions c past (Step.Grant t) =
    (not (in_flight past t), Why.NoTicket)
    ∷ (none_left c past t || has_open past t, Why.WrongState)
    ∷ (conflicts_open past (mode (ticket past t)) (next_unit c past t), Why.Conflict)
    ∷ []
conditions c past (Step.Block t) =
    (not (in_flight past t), Why.NoTicket)
    ∷ (not (has_open past t), Why.WrongState)
    ∷ []
conditions c past (Step.Post t) =
    (not (in_flight past t), Why.NoTicket)
    ∷ (owes_nothing_yet c past t, Why.WrongState)
    ∷ (
      let q = completion_queue c (ticket past t).queue in
          (length (posted_completions c past q) - reaped_count past q == c.cq_size - 1),
      Why.CqFull,
    )
    ∷ []
conditions c past (Step.Reap q) =
    (no_completion_queue c q, Why.NoQueue)
    ∷ (length (posted_completions c past q) == reaped_count past q, Why.NoCompletion)
    ∷ []

-- what refuses the step, memory aside
abbrev pub refusal : ConfigNumbers → Past → Step → Option Why
refusal c past step = first_row (conditions c past step)

-- the number that texts give a refusal
abbrev pub refusal_number : Why → ℕ
refusal_number Why.NoQueue = 1
refusal_number Why.NoRoom = 2
refusal_number Why.NoEntry = 3
refusal_number Why.JobsFull = 4
refusal_number Why.NoTicket = 5
refusal_number Why.Conflict = 6
refusal_number Why.WrongState = 7
refusal_number Why.CqFull = 8
refusal_number Why.NoCompletion = 9
refusal_number Why.BadBatch = 10
refusal_number Why.NoMemory = 11
refusal_number Why.Busy = 12
