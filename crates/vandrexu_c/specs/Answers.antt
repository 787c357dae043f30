-- What a step is answered, as it lies in C.
use Rattle.std.specs.Prelude.{None, Option, Some, [], ℕ, ◌∷◌}
use Rattle.nvme_model.specs.Bits.{bit}
use Rattle.nvme_model.specs.Refusals.{refusal_number}
use Rattle.nvme_model.specs.declared.array.Mode.{Mode}
use Rattle.nvme_model.specs.declared.array.Range.{Range}
use Rattle.nvme_model.specs.declared.operation.Found.{Found}
use Rattle.nvme_model.specs.declared.operation.Op.{Op}
use Rattle.nvme_model.specs.declared.step.Step.{Step}
use Rattle.block_exec.specs.declared.run.Done.{Done}
use Rattle.controller_interface.specs.Works.{TicketWork}
use Rattle.controller_interface.specs.declared.answer.Refused.{Refused}
use Rattle.fused_match.specs.declared.judged.Judged.{Judged}
use Rattle.vandrexu_c.specs.declared.answers.BlockedStep.{BlockedStep}
use Rattle.vandrexu_c.specs.declared.answers.FetchedWork.{FetchedWork}
use Rattle.vandrexu_c.specs.declared.answers.GrantedUnit.{GrantedUnit}
use Rattle.vandrexu_c.specs.declared.answers.NextStep.{NextStep}

-- the number of an operation
abbrev pub op_number : Op → ℕ
op_number Op.Read = 1
op_number Op.Compare = 2
op_number Op.Write = 3
op_number Op.WriteZeroes = 4
op_number Op.Pair = 5

-- the number of how a unit holds its blocks
abbrev pub mode_number : Mode → ℕ
mode_number Mode.Shared = 1
mode_number Mode.Exclusive = 2

-- the number of what a Block found
abbrev pub found_number : Found → ℕ
found_number Found.Read = 1
found_number Found.Equal = 2
found_number Found.Differs = 3
found_number Found.Written = 4

-- what a ticket has to do, with 0 for what a kind doesn't have
abbrev pub kind_work : ℕ → Judged → FetchedWork
kind_work t (Judged.SingleFailed s) = record { ticket = t; slba = 0; blocks = 0; kind = 1; op = 0; statuses = 1 }
kind_work t (Judged.PairFailed s r) = record { ticket = t; slba = 0; blocks = 0; kind = 1; op = 0; statuses = 2 }
kind_work t Judged.Flush = record { ticket = t; slba = 0; blocks = 0; kind = 2; op = 0; statuses = 0 }
kind_work t (Judged.Single o r) =
    record { ticket = t; slba = r.slba; blocks = r.blocks; kind = 3; op = op_number o; statuses = 0 }
kind_work t (Judged.Pair r) = record { ticket = t; slba = r.slba; blocks = r.blocks; kind = 4; op = 0; statuses = 0 }

-- the work of a ticket
abbrev pub fetched_work_of : TicketWork → FetchedWork
fetched_work_of w = kind_work w.ticket w.judged

-- a granted unit
abbrev pub granted_of : ℕ → Range → Mode → GrantedUnit
granted_of unit r mode = record { unit = unit; slba = r.slba; blocks = r.blocks; mode = mode_number mode }

-- what a Block did
abbrev pub blocked_of : Done → BlockedStep
blocked_of d = record {
  lba = d.lba;
  found = found_number d.found;
  effect = bit d.effect;
  ended = bit d.ended;
  zeros = 0 ∷ 0 ∷ [];
}

-- a step of a ticket that goes on by itself; none for any other
abbrev pub next_step_of : Step → Option NextStep
next_step_of (Step.Grant t) = Some (record { ticket = t; kind = 2 })
next_step_of (Step.Block t) = Some (record { ticket = t; kind = 3 })
next_step_of (Step.Post t) = Some (record { ticket = t; kind = 4 })
next_step_of _ = None

-- the number of a refusal
abbrev pub refused_number : Refused → ℕ
refused_number (Refused.Publish why batch) = refusal_number why
refused_number (Refused.Step why) = refusal_number why
