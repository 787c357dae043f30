-- Which steps of a ticket are in their place, by the ticket's own entries.
use Rattle.std.specs.List.{list_all, list_any}
use Rattle.std.specs.Prelude.{Bool, List, None, Option, Some, [], false, if◌then◌else◌, is_some, length, nat_le, nat_lt}
use Rattle.std.specs.Prelude.{not}
use Rattle.std.specs.Prelude.{true, ℕ, ◌&&◌, ◌*◌, ◌-◌, ◌||◌, ◌∷◌}
use Rattle.nvme_model.specs.History.{Past}
use Rattle.nvme_model.specs.Open.{blocks_made, differed, granted, is_differs}
use Rattle.nvme_model.specs.Operations.{is_pair, op, units}
use Rattle.nvme_model.specs.Owed.{numbered_units}
use Rattle.nvme_model.specs.Tables.{first_row}
use Rattle.nvme_model.specs.Tickets
use Rattle.nvme_model.specs.Tickets.{posts_of}
use Rattle.nvme_model.specs.declared.config.ConfigNumbers.{ConfigNumbers}
use Rattle.nvme_model.specs.declared.array.Range.{Range}
use Rattle.nvme_model.specs.declared.operation.Found.{Found}
use Rattle.nvme_model.specs.declared.operation.Op.{Op}
use Rattle.nvme_model.specs.declared.refusal.Why.{Why}
use Rattle.nvme_model.specs.declared.step.Step.{Step}
use Rattle.ticket_laws.specs.declared.stage.DutyStage.{DutyStage}

-- what a ticket has to do: its completions in all, its operation, None where it has no unit, and its units
pub record Duty : Type 0 where
  pub statuses : ℕ
  pub op : Option Op
  pub units : List Range

-- what ticket t has to do
abbrev pub duty_at : ConfigNumbers → Past → ℕ → Duty
duty_at c past t =
    let k = Tickets.ticket past t in
    record { statuses = length k.commands; op = op k; units = units c k }

-- unit u of n blocks of ticket t has ended
abbrev pub own_ended : Option Op → Past → ℕ → ℕ → ℕ → Bool
own_ended o its t u n =
    nat_le (if is_pair o then 2 * n else n) (length (blocks_made its t u))
    || list_any (λ b. is_differs b.found) (blocks_made its t u)

-- a unit of it is open
abbrev pub own_open : Option Op → Past → ℕ → Bool
own_open o its t = list_any (λ g. not (own_ended o its t g.unit g.range.blocks)) (granted its)

-- all its units have ended
abbrev pub own_all_ended : Duty → Past → ℕ → Bool
own_all_ended d its t = list_all (λ u. own_ended d.op its t u.0 u.1.blocks) (numbered_units 0 d.units)

-- it isn't in flight
abbrev pub own_done : Duty → Past → ℕ → Bool
own_done d its t = not (nat_lt (posts_of its t) d.statuses)

-- why a step of ticket t isn't in its place, by the ticket's entries
abbrev pub task_fault : Duty → ℕ → Past → Step → Option Why
task_fault d t its (Step.Grant s) =
    first_row
    ((own_done d its t, Why.NoTicket)
    ∷ ((nat_le (length d.units) (length (granted its)) || differed its t) || own_open d.op its t, Why.WrongState)
    ∷ [])
task_fault d t its (Step.Block s) =
    first_row ((own_done d its t, Why.NoTicket) ∷ (not (own_open d.op its t), Why.WrongState) ∷ [])
task_fault d t its (Step.Post s) =
    first_row
    ((own_done d its t, Why.NoTicket)
    ∷ (is_some d.op && not (own_all_ended d its t || differed its t), Why.WrongState)
    ∷ [])
task_fault d t its _ = None

-- it isn't refused for its ticket's sake
abbrev pub IsInPlace : Option Why → Type 0
IsInPlace (Some Why.NoTicket) = ⊥
IsInPlace (Some Why.WrongState) = ⊥
IsInPlace _ = Unit {0}

-- ---- how far a ticket has come

-- by its entries
abbrev pub own_stage : Duty → ℕ → Past → DutyStage
own_stage d t its =
    record {
      left = length d.units - length (granted its);
      owing = d.statuses - posts_of its t;
      is_open = own_open d.op its t;
      differs = differed its t;
    }

-- before any of its steps
abbrev pub first_duty_stage : Duty → DutyStage
first_duty_stage d = record { left = length d.units; owing = d.statuses; is_open = false; differs = false }

-- after a Grant, after a Block that found this and ended the unit or not, and after a Post
abbrev pub after_grant : DutyStage → DutyStage
after_grant s = record s { left = s.left - 1; is_open = true }

-- the stage after a Block that found this, and that ended its unit or not
abbrev pub after_block : DutyStage → Found → Bool → DutyStage
after_block s f ended = record s { is_open = not ended; differs = is_differs f || s.differs }

-- the stage after a Post
abbrev pub after_post : DutyStage → DutyStage
after_post s = record s { owing = s.owing - 1 }
