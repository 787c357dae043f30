-- What a fetched ticket has to do.
use Rattle.std.specs.Prelude.{List, None, Option, Some, ℕ}
use Rattle.nvme_model.specs.Cut.{cut}
use Rattle.nvme_model.specs.declared.array.Range.{Range}
use Rattle.nvme_model.specs.declared.config.AtomicParameters.{AtomicParameters}
use Rattle.fused_match.specs.declared.judged.Judged.{Judged}

-- the ticket, how its commands are cut into units, and what its Fetch found
pub record TicketWork : Type 0 where
  pub ticket : ℕ
  pub atomic : AtomicParameters
  pub judged : Judged

-- the units of a command on blocks, by what its Fetch found
abbrev pub command_units : AtomicParameters → Judged → Option (List Range)
command_units u (Judged.Single o r) = Some (cut u r.slba r.blocks)
command_units u _ = None

-- those of a Work
abbrev pub work_units : TicketWork → Option (List Range)
work_units w = command_units w.atomic w.judged
