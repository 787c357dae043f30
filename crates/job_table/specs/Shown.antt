-- The stage of a ticket in a history.
use Rattle.std.specs.Prelude.{None, Option, Some, false, if◌then◌else◌, ◌==◌}
use Rattle.nvme_model.specs.Operations.{op}
use Rattle.nvme_model.specs.declared.config.ConfigNumbers.{ConfigNumbers}
use Rattle.nvme_model.specs.declared.operation.Op.{Op}
use Rattle.ticket_laws.specs.Standing.{OpenUnit, Standing, blocks_left, still_owed}
use Rattle.block_exec.specs.Progress.{UnitProgress}
use Rattle.job_table.specs.declared.progress.TicketStage.{TicketStage}
use Rattle.job_table.specs.declared.progress.TicketStage.TheVariants.{Waiting, Open, Owing}

-- how far the open unit of an operation has come
abbrev pub run_of : Op → OpenUnit → UnitProgress
run_of o u = record { op = o; range = u.line.range; made = u.made; differed = false }

-- the stage of a ticket that stands so, by its operation, if it has one, and its open unit
abbrev pub stage_by : ConfigNumbers → Standing → Option Op → Option OpenUnit → TicketStage
stage_by c s None u = Owing (still_owed c s)
stage_by c s (Some o) (Some u) = Open (run_of o u) u.line.unit (blocks_left c s)
stage_by c s (Some o) None = if (blocks_left c s).blocks == 0 then Owing (still_owed c s)
    else Waiting o s.opened (blocks_left c s)

-- the stage of a ticket that stands so
abbrev pub standing_stage : ConfigNumbers → Standing → TicketStage
standing_stage c s = stage_by c s (op s.ticket) s.unit
