-- The rules over the tables: what refuses a step, and whether an entry may follow.
use Rattle.std.specs.Bool.{beq}
use Rattle.std.specs.List.{flat_map, list_any}
use Rattle.std.specs.Prelude.{Bool, List, None, Option, Some, [], bytes_eq, drop, false, get_or, if◌then◌else◌, is_none}
use Rattle.std.specs.Prelude.{is_some, length, map, nat_le, nat_lt, not, slice_get, true, ℕ, ◌%◌, ◌&&◌, ◌+◌, ◌++◌, ◌-◌}
use Rattle.std.specs.Prelude.{◌==◌, ◌||◌, ◌∷◌}
use Rattle.nvme_model.specs.Answered.{may_find}
use Rattle.nvme_model.specs.Completions.{phase}
use Rattle.nvme_model.specs.Config.{completion_queue}
use Rattle.nvme_model.specs.declared.config.ConfigNumbers.{ConfigNumbers}
use Rattle.nvme_model.specs.EntryBytes.{cqe_bytes}
use Rattle.nvme_model.specs.History.{step_of}
use Rattle.nvme_model.specs.Legal.{is_cqe, is_range}
use Rattle.nvme_model.specs.Open.{conflict}
use Rattle.nvme_model.specs.Operations.{is_exclusive, mode, op, units}
use Rattle.nvme_model.specs.Refusals.{is_flush_ticket, no_completion_queue, no_queue}
use Rattle.nvme_model.specs.Statuses.{compare_failure, failed_fused, is_success, success}
use Rattle.nvme_model.specs.Tables.{first_row}
use Rattle.nvme_model.specs.Tickets.{cids}
use Rattle.nvme_model.specs.Verdict.{item_of, passed, same_verdict, verdict_of}
use Rattle.nvme_model.specs.declared.array.Mode.{Mode}
use Rattle.nvme_model.specs.declared.array.Range.{Range}
use Rattle.nvme_model.specs.declared.entry.BlockLine.{BlockLine}
use Rattle.nvme_model.specs.declared.entry.Entry.{Entry}
use Rattle.nvme_model.specs.declared.entry.PostLine.{PostLine}
use Rattle.nvme_model.specs.declared.operation.Op.{Op}
use Rattle.nvme_model.specs.declared.refusal.Why.{Why}
use Rattle.nvme_model.specs.declared.status.Status.{Status}
use Rattle.nvme_model.specs.declared.status.Verdict.{Verdict}
use Rattle.nvme_model.specs.declared.step.Step.{Step}
use Rattle.history_check.specs.Effects.{answers_at, word_of}
use Rattle.history_check.specs.Tables.{CheckedTicket, CheckedUnit, Tables}

-- ---- a ticket

-- a completion is still to be posted
abbrev pub flies : CheckedTicket → Bool
flies f = nat_lt f.posts (length f.ticket.commands)

-- the CIDs that it still owes a completion for, where it is of queue q
abbrev pub cids_left : ℕ → CheckedTicket → List ℕ
cids_left q f = if f.ticket.queue == q then drop f.posts (cids f.ticket) else []

-- those of all in flight
abbrev pub in_use : Tables → ℕ → List ℕ
in_use s q = flat_map (λ t. cids_left q (s.flight t)) s.flying

-- what a Fetch of queue q says
abbrev pub checked_verdict : ConfigNumbers → Tables → ℕ → Verdict
checked_verdict c s q = verdict_of c.atomic c.blocks (in_use s q) (map item_of (s.waiting q))

-- the unit that a Grant would open
abbrev pub next_by : ConfigNumbers → CheckedTicket → Option Range
next_by c f = slice_get (units c f.ticket) f.opened

-- no unit is left to open: all are, or a Block has said `differs`
abbrev pub none_left_by : ConfigNumbers → CheckedTicket → Bool
none_left_by c f = nat_le (length (units c f.ticket)) f.opened || f.differs

-- the range, held so, conflicts with an open unit
abbrev pub conflicts_by : Tables → Mode → Option Range → Bool
conflicts_by s m None = false
conflicts_by s m (Some r) = list_any (λ g. conflict r m g.range g.mode) s.opens

-- its units have all ended
abbrev pub checked_has_run : ConfigNumbers → CheckedTicket → Bool
checked_has_run c f = nat_le (length (units c f.ticket)) f.opened && is_none f.unit

-- and each has its effect
abbrev pub is_done : ConfigNumbers → CheckedTicket → Bool
is_done c f = checked_has_run c f && nat_le (length (units c f.ticket)) f.placed

-- nothing is owed yet
abbrev pub owes_nothing : ConfigNumbers → CheckedTicket → Bool
owes_nothing c f = passed f.ticket.verdict && not (is_flush_ticket (op f.ticket))
    && not (checked_has_run c f || f.differs)

-- what it owes in all
abbrev pub checked_owed_running : ConfigNumbers → CheckedTicket → Option Op → List Status
checked_owed_running c f None = success ∷ []
checked_owed_running c f (Some Op.Pair) =
    if f.no && checked_has_run c f then compare_failure ∷ failed_fused ∷ []
    else (if is_done c f then success ∷ success ∷ [] else [])
checked_owed_running c f (Some o) =
    if f.no then compare_failure ∷ []
    else (if is_done c f then success ∷ [] else [])

-- the statuses that a ticket with this verdict owes
abbrev pub owed_as : ConfigNumbers → CheckedTicket → Verdict → List Status
owed_as c f (Verdict.SingleFailed s) = s ∷ []
owed_as c f (Verdict.PairFailed s r) = s ∷ r ∷ []
owed_as c f _ = checked_owed_running c f (op f.ticket)

-- the statuses that a ticket owes, by what is kept of it
abbrev pub checked_owed : ConfigNumbers → CheckedTicket → List Status
checked_owed c f = owed_as c f f.ticket.verdict

-- the bytes of its next completion, with this status
abbrev pub completion_by : ConfigNumbers → Tables → CheckedTicket → Status → List ℕ
completion_by c s f status =
    let k = f.ticket in
    cqe_bytes (s.fetched k.queue % c.sq_size) k.queue (get_or (cids k) f.posts 0)
    (phase (s.posts (completion_queue c k.queue)) c.cq_size) status

-- and its data
abbrev pub read_by : Option Op → List ℕ → List ℕ
read_by (Some Op.Read) found = found
read_by _ found = []

-- the data of a completion: what a Read found, where it succeeds
abbrev pub checked_data : CheckedTicket → Status → List ℕ
checked_data f status = if is_success status then read_by (op f.ticket) f.found else []

-- ---- what refuses a step

-- the table of refusals of a step, by the tables
abbrev pub conditions_by : ConfigNumbers → Tables → Step → List (Bool × Why)
conditions_by c s (Step.Publish q batch) =
    (no_queue c q, Why.NoQueue)
    ∷ (length batch == 0, Why.BadBatch)
    ∷ (nat_lt (c.sq_size - 1) (length (s.waiting q) + length batch), Why.NoRoom)
    ∷ []
conditions_by c s (Step.Fetch q) =
    (no_queue c q, Why.NoQueue)
    ∷ (length (s.waiting q) == 0, Why.NoEntry)
    ∷ (nat_le c.jobs (length s.flying), Why.JobsFull)
    ∷ []
conditions_by c s (Step.Grant t) =
    (not (flies (s.flight t)), Why.NoTicket)
    ∷ (none_left_by c (s.flight t) || is_some (s.flight t).unit, Why.WrongState)
    ∷ (conflicts_by s (mode (s.flight t).ticket) (next_by c (s.flight t)), Why.Conflict)
    ∷ []
conditions_by c s (Step.Block t) =
    (not (flies (s.flight t)), Why.NoTicket)
    ∷ (not (is_some (s.flight t).unit), Why.WrongState)
    ∷ []
conditions_by c s (Step.Post t) =
    (not (flies (s.flight t)), Why.NoTicket)
    ∷ (owes_nothing c (s.flight t), Why.WrongState)
    ∷ (length (s.unreaped (completion_queue c (s.flight t).ticket.queue)) == c.cq_size - 1, Why.CqFull)
    ∷ []
conditions_by c s (Step.Reap q) =
    (no_completion_queue c q, Why.NoQueue)
    ∷ (length (s.unreaped q) == 0, Why.NoCompletion)
    ∷ []

-- the first refusal of a step that holds, if one does
abbrev pub refusal_by : ConfigNumbers → Tables → Step → Option Why
refusal_by c s step = first_row (conditions_by c s step)

-- ---- whether an entry may follow

-- the answers that are right, once the open unit has its effect, with this Block
abbrev pub right_after : (ℕ → List ℕ) → CheckedTicket → BlockLine → CheckedUnit → Option (List Bool)
right_after contents f b u = if b.effect then Some (answers_at contents f.ticket u.line.range) else u.right

-- the answers are the first of those
abbrev pub agrees : List Bool → List Bool → Bool
agrees [] answers = true
agrees (x ∷ xs) [] = false
agrees (x ∷ xs) (y ∷ ys) = beq x y && agrees xs ys

-- where they are known
abbrev pub are_right : Option (List Bool) → List Bool → Bool
are_right None said = true
are_right (Some answers) said = agrees said answers

-- a Block of the open unit
abbrev pub block_fits_by : (ℕ → List ℕ) → CheckedTicket → BlockLine → Option CheckedUnit → Bool
block_fits_by contents f b None = false
block_fits_by contents f b (Some u) =
    let r = u.line.range in
    let j = u.made in
    (b.unit == u.line.unit)
    && (b.lba == r.slba + j % r.blocks)
    && may_find (op f.ticket) r.blocks j b.found
    && (not b.effect || (b.unit == f.placed))
    && are_right (right_after contents f b u) (u.said ++ word_of b.found)

-- a Post says the completion and the data that are due for this status
abbrev pub post_fits_by : ConfigNumbers → Tables → PostLine → Option Status → Bool
post_fits_by c s p None = false
post_fits_by c s p (Some status) =
    bytes_eq p.cqe (completion_by c s (s.flight p.ticket) status)
    && bytes_eq p.payload (checked_data (s.flight p.ticket) status)

-- an entry says what its step does
abbrev pub fits_by : ConfigNumbers → Tables → Entry → Bool
fits_by c s (Entry.Publish p) = true
fits_by c s (Entry.Fetch f) = (f.ticket == s.tickets + 1) && same_verdict f.verdict (checked_verdict c s f.queue)
fits_by c s (Entry.Grant g) =
    let f = s.flight g.ticket in
    (g.unit == f.opened) && is_range (next_by c f) g.range && beq (is_exclusive g.mode) (is_exclusive (mode f.ticket))
fits_by c s (Entry.Block b) = block_fits_by s.value (s.flight b.ticket) b (s.flight b.ticket).unit
fits_by c s (Entry.Post p) =
    post_fits_by c s p (slice_get (checked_owed c (s.flight p.ticket)) (s.flight p.ticket).posts)
fits_by c s (Entry.Reap r) = is_cqe (slice_get (s.unreaped r.queue) 0) r.cqe

-- an entry may follow: nothing refuses its step, and it says what that does
abbrev pub judged : ConfigNumbers → Tables → Entry → Bool
judged c s e = is_none (refusal_by c s (step_of e)) && fits_by c s e
