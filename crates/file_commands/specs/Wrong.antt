-- The first entry of a history that breaks the discipline of an area of slots.
use Rattle.std.specs.Prelude.{Bool, None, Option, Some, [], false, length, true, ℕ, ◌++◌, ◌+◌, ◌∷◌, ◌≡◌}
use Rattle.nvme_model.specs.History.{Past}
use Rattle.host_laws.specs.Rules.{takeover_disciplined}
use Rattle.nvme_model.specs.declared.array.Range.{Range}
use Rattle.nvme_model.specs.declared.config.ConfigNumbers.{ConfigNumbers}
use Rattle.nvme_model.specs.declared.entry.Entry.{Entry}
use Rattle.casdisk_texts.specs.Judged.{HasJudged}
use Rattle.casdisk_texts.specs.declared.judging.FirstBad.{FirstBad}
use Rattle.history_check.specs.Kept.{CheckerRun}
use Rattle.slot_check.specs.Broken.{discipline_broken}
use Rattle.slot_check.specs.Watched.{AreaState, Watches}
use Rattle.slot_check.specs.declared.broken.BrokenDiscipline.{BrokenDiscipline}
use Rattle.file_commands.specs.declared.judging.WrongStep.{WrongStep}

-- The step is the first entry of the history that breaks the discipline of the area, with the rule that it breaks
-- first: the entries before it keep the discipline, and with it they don't.
pub record BreaksFirst (c : ConfigNumbers) (slots : Range) (past : Past) (step : WrongStep) : Type 0 where
  pub later : Past
  pub entry : Entry
  pub before : Past
  pub whole : past ≡ later ++ entry ∷ before
  pub place : step.place ≡ length before + 1
  pub kept : takeover_disciplined c slots before ≡ true
  pub broken : takeover_disciplined c slots (entry ∷ before) ≡ false
  pub rule : discipline_broken c slots before entry ≡ Some step.broken

-- the entry at this place, where it breaks a rule
abbrev pub wrong_step_at : ℕ → Option BrokenDiscipline → Option WrongStep
wrong_step_at place None = None
wrong_step_at place (Some broken) = Some (record { place = place; broken = broken })

-- an earlier one, or this one
abbrev pub wrong_or : Option WrongStep → Option WrongStep → Option WrongStep
wrong_or None later = later
wrong_or (Some step) later = Some step

-- The first entry that breaks the discipline, for computing; None where the history keeps it.
abbrev pub first_wrong : ConfigNumbers → Range → Past → Option WrongStep
first_wrong c slots [] = None
first_wrong c slots (e ∷ past) =
    wrong_or (first_wrong c slots past) (wrong_step_at (length past + 1) (discipline_broken c slots past e))

-- So many entries were judged, and this is the first bad one. Where there is none, the other is the first that breaks
-- the discipline; where there is none of either, the check of the slots stands for the history.
pub record HasJudgedSlots (why : Bool) (c : ConfigNumbers) (slots : Range) (past : Past) (x : CheckerRun) (count : ℕ)
    (bad : FirstBad) (area : AreaState) (wrong : Option WrongStep) : Type 0 where
  pub judged : HasJudged why c past x count bad
  pub first : bad.place ≡ None → wrong ≡ first_wrong c slots past
  pub watches : bad.place ≡ None → wrong ≡ None → Watches c slots past area
