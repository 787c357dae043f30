-- What a check of the slots stands for.
use Rattle.std.specs.Prelude.{true, ◌≡◌}
use Rattle.nvme_model.specs.History.{Past}
use Rattle.nvme_model.specs.Legal.{IsLegal}
use Rattle.nvme_model.specs.Slots.{in_area, reaped_success}
use Rattle.nvme_model.specs.declared.array.Range.{Range}
use Rattle.nvme_model.specs.declared.config.ConfigNumbers.{ConfigNumbers}
use Rattle.host_laws.specs.Rules.{takeover_disciplined}
use Rattle.host_laws.specs.Takeovers.{moves}
use Rattle.slot_check.specs.Names.{KeptNames, KnowsNames, names_in}
use Rattle.slot_check.specs.Progress.{KeptProgress, KnowsProgress, progress_in}
use Rattle.slot_check.specs.Takeovers.{KeptTakeovers, KnowsTakeovers, takeovers_kept}
use Rattle.slot_check.specs.declared.area.AreaCheck.{AreaCheck}
use Rattle.slot_check.specs.declared.tables.SlotTables.{SlotTables}

-- what a check of the slots keeps
pub record SlotCheckState : Type 0 where
  pub progress : KeptProgress
  pub names : KeptNames
  pub takeovers : KeptTakeovers

-- in these tables
abbrev pub slot_check_state_in : SlotTables → SlotCheckState
slot_check_state_in t =
    record { progress = progress_in t.progress; names = names_in t.names; takeovers = takeovers_kept t.takeovers }

-- It is what is kept of this legal history, which keeps the discipline of the area with takeovers.
pub record IsSlotCheckState (c : ConfigNumbers) (area : Range) (past : Past) (k : SlotCheckState) : Type 0 where
  pub legal : IsLegal c past
  pub disciplined : takeover_disciplined c area past ≡ true
  pub progress : KnowsProgress c past k.progress
  pub names : KnowsNames (reaped_success c past) (in_area area (moves past)) k.names
  pub takeovers : KnowsTakeovers c area past k.takeovers

-- a check of the slots: its configuration, the area, and what it keeps
pub record AreaState : Type 0 where
  pub config : ConfigNumbers
  pub slots : Range
  pub kept : SlotCheckState

-- of a check
abbrev pub area_state : AreaCheck → AreaState
area_state x = record { config = x.config; slots = x.slots; kept = slot_check_state_in x.tables }

-- It stands for this legal history, which keeps the discipline of the area with takeovers.
pub record Watches (c : ConfigNumbers) (area : Range) (past : Past) (x : AreaState) : Type 0 where
  pub config : x.config ≡ c
  pub slots : x.slots ≡ area
  pub keeps : IsSlotCheckState c area past x.kept
