-- Where a ticket stands, and how a step moves it.
use Rattle.std.specs.Prelude.{Bool, List, None, Option, Some, [], drop, false, if◌then◌else◌, length, true, ℕ, ◌+◌}
use Rattle.std.specs.Prelude.{◌==◌, ◌∷◌, ◌≡◌, ◌≤◌}
use Rattle.nvme_model.specs.Statuses.{success}
use Rattle.nvme_model.specs.Operations.{command_count, has_write}
use Rattle.nvme_model.specs.declared.array.Mode.{Mode}
use Rattle.nvme_model.specs.declared.array.Range.{Range}
use Rattle.nvme_model.specs.declared.config.AtomicParameters.{AtomicParameters}
use Rattle.nvme_model.specs.declared.operation.Found.{Found}
use Rattle.nvme_model.specs.declared.operation.Op.{Op}
use Rattle.nvme_model.specs.declared.status.Status.{Status}
use Rattle.ticket_laws.specs.Standing.{next_of, on_differs, on_success, without}
use Rattle.fused_match.specs.declared.judged.Judged.{Judged}
use Rattle.fused_match.specs.declared.judged.Judged.TheVariants as judged
use Rattle.block_exec.specs.Course.{begun, unit_noted}
use Rattle.block_exec.specs.Progress.{UnitProgress, unit_has_ended}
use Rattle.nvme_model.specs.Array.{IsRange}
use Rattle.job_table.specs.declared.progress.TicketStage.{TicketStage}
use Rattle.job_table.specs.declared.progress.TicketStage.TheVariants.{Waiting, Open, Owing}

-- where a ticket stands, and the CIDs that it still owes a completion for
pub record Ticking : Type 0 where
  pub stage : TicketStage
  pub cids : List ℕ

-- ---- what is kept of it

-- some blocks are left, in few units
pub record IsTicketWaiting (o : Op) (u : ℕ) (left : Range) (cids : List ℕ) : Type 0 where
  pub range : IsRange left
  pub few : u + left.blocks ≤ 65536
  pub each : length cids ≡ command_count o

-- the unit goes on, and the blocks that are left lie behind it
pub record IsOpenUnit (p : UnitProgress) (u : ℕ) (left : Range) (cids : List ℕ) : Type 0 where
  pub goes_on : unit_has_ended p ≡ false
  pub behind : p.range.slba + p.range.blocks ≡ left.slba
  pub within : left.slba + left.blocks ≤ 65536
  pub few : u + 1 + left.blocks ≤ 65536
  pub whole : p.op ≡ Op.Pair → left.blocks ≡ 0
  pub each : length cids ≡ command_count p.op

-- what is so of each stage, with the CIDs that still wait for a completion
abbrev pub IsTicketProgress : TicketStage → List ℕ → Type 0
IsTicketProgress (Waiting o u left) cids = IsTicketWaiting o u left cids
IsTicketProgress (Open p u left) cids = IsOpenUnit p u left cids
IsTicketProgress (Owing owed) cids = length owed ≡ length cids

-- ---- what it shows

-- a unit is open
abbrev pub is_open : TicketStage → Bool
is_open (Open p u left) = true
is_open _ = false

-- this holds of the unit that is open
abbrev pub IfOpen : TicketStage → (UnitProgress → Type 0) → Type 0
IfOpen (Open p u left) F = F p
IfOpen _ F = Unit {0}

-- the number of the unit that is open or next
abbrev pub unit_in : TicketStage → ℕ
unit_in (Waiting o u left) = u
unit_in (Open p u left) = u
unit_in (Owing owed) = 0

-- how a unit of this operation holds its blocks
abbrev pub mode_by : Op → Mode
mode_by o = if has_write (Some o) then Mode.Exclusive else Mode.Shared

-- how the units of a ticket do
abbrev pub stage_mode : TicketStage → Mode
stage_mode (Waiting o u left) = mode_by o
stage_mode (Open p u left) = mode_by p.op
stage_mode (Owing owed) = Mode.Shared

-- the unit that is opened next
abbrev pub next_in : AtomicParameters → TicketStage → Option Range
next_in a (Waiting o u left) = next_of a (Some o) left
next_in a _ = None

-- these are the first of the blocks that are left, and all of a pair's
abbrev pub IsFirstUnit : TicketStage → Range → Type 0
IsFirstUnit (Waiting o u left) r =
    (r.slba ≡ left.slba) × (1 ≤ r.blocks) × (r.blocks ≤ left.blocks) × (o ≡ Op.Pair → r.blocks ≡ left.blocks)
IsFirstUnit _ r = ⊥

-- what is owed
abbrev pub owed_in : TicketStage → List Status
owed_in (Owing owed) = owed
owed_in _ = []

-- ---- how a step moves it

-- just fetched
abbrev pub first_ticket_stage : Judged → TicketStage
first_ticket_stage judged.Flush = Owing (success ∷ [])
first_ticket_stage (judged.Single o r) = Waiting o 0 r
first_ticket_stage (judged.Pair r) = Waiting Op.Pair 0 r
first_ticket_stage (judged.SingleFailed s) = Owing (s ∷ [])
first_ticket_stage (judged.PairFailed s r) = Owing (s ∷ r ∷ [])

-- with this unit opened
abbrev pub opened_in : TicketStage → Range → TicketStage
opened_in (Waiting o u left) r = Open (begun o r) u (without left r.blocks)
opened_in s r = s

-- where a unit has ended and these blocks are left
abbrev pub between : Op → ℕ → Range → TicketStage
between o u left = if left.blocks == 0 then Owing (on_success o) else Waiting o u left

-- where its open unit has come so far
abbrev pub moved_to : UnitProgress → ℕ → Range → TicketStage
moved_to p u left =
    if p.differed then Owing (on_differs p.op)
    else (if unit_has_ended p then between p.op (u + 1) left else Open p u left)

-- after a Block that found this
abbrev pub noted_in : TicketStage → Found → TicketStage
noted_in (Open p u left) f = moved_to (unit_noted p f) u left
noted_in s f = s

-- after a Post
abbrev pub posted_in : Ticking → Ticking
posted_in t = record { stage = Owing (drop 1 (owed_in t.stage)); cids = drop 1 t.cids }
