-- What a handle of a checker of slots owns, and what its calls answer.
use Rattle.std.specs.Prelude.{Bool, List, None, Option, Some, [], false, is_none, length, true, ℕ, ◌<◌, ◌≤◌, ◌∷◌, ◌≡◌}
use Rattle.std.specs.Prelude.{◌⊎◌}
use Rattle.c_handles.specs.Owned.{Keeps}
use Rattle.nvme_model.specs.Config.{config_fault}
use Rattle.nvme_model.specs.History.{Past}
use Rattle.nvme_model.specs.Legal.{IsLegal}
use Rattle.nvme_model.specs.declared.array.Range.{Range}
use Rattle.nvme_model.specs.declared.config.ConfigNumbers.{ConfigNumbers}
use Rattle.nvme_model.specs.declared.entry.Entry.{Entry}
use Rattle.history.specs.Lines.{entry_in}
use Rattle.host_laws.specs.Rules.{takeover_disciplined}
use Rattle.slot_check.specs.Broken.{broken_at}
use Rattle.slot_check.specs.Watched.{Watches, area_state}
use Rattle.slot_check.specs.declared.area.AreaCheck.{AreaCheck}
use Rattle.file_commands.specs.Wrong.{first_wrong}
use Rattle.file_commands.specs.declared.judging.WrongStep.{WrongStep}

-- a checker of slots: its check, how many entries it took, and the first of them that breaks the discipline
pub record SlotCheckerRun : Type 0 where
  pub area : AreaCheck
  pub count : ℕ
  pub wrong : Option WrongStep

-- It took this history. Where that is legal, it has the first step that breaks the discipline of the slots, and none
-- exactly where the history keeps it; and where there is none, what it keeps is that of the history.
pub record FollowsSlots (c : ConfigNumbers) (slots : Range) (past : Past) (r : SlotCheckerRun) : Type 0 where
  pub count : r.count ≡ length past
  pub first : IsLegal c past → r.wrong ≡ first_wrong c slots past
  pub kept : IsLegal c past → is_none r.wrong ≡ takeover_disciplined c slots past
  pub watches : IsLegal c past → r.wrong ≡ None → Watches c slots past (area_state r.area)

-- a handle owns a checker of these slots that has taken no line, of a configuration that isn't refused
abbrev pub IsNewSlotChecker : ConfigNumbers → Range → Option SlotCheckerRun → Type 0
IsNewSlotChecker c slots o = Keeps o (FollowsSlots c slots []) × (config_fault c ≡ None)

-- 0 for a discipline that is kept, 128 for one that isn't
abbrev pub kept_number : Bool → ℕ
kept_number true = 0
kept_number false = 128

-- it stands for whatever history it stood for
abbrev pub StillFollows : SlotCheckerRun → SlotCheckerRun → Type 0
StillFollows old new =
    (c : ConfigNumbers) (slots : Range) (past : Past) → FollowsSlots c slots past old → FollowsSlots c slots past new

-- An entry was offered: memory was refused, and it wasn't taken; or it was, and it is told whether none of those that
-- were taken breaks the discipline.
abbrev pub TellsWhetherKept : SlotCheckerRun → Entry → ℕ → SlotCheckerRun → Type 0
TellsWhetherKept old e number new =
    ((number ≡ 11) × StillFollows old new)
    ⊎ ((number ≡ kept_number (is_none new.wrong))
    × ((c : ConfigNumbers) (slots : Range) (past : Past) → FollowsSlots c slots past old →
    FollowsSlots c slots (e ∷ past) new))

-- A line was offered: it is none of a history, or memory was refused, and it wasn't taken; or its entry was offered.
abbrev pub TellsSlotsTaken : SlotCheckerRun → List ℕ → ℕ → SlotCheckerRun → Type 0
TellsSlotsTaken old line number new =
    ((number ≡ 107) × (entry_in line ≡ None) × (new ≡ old))
    ⊎ ((number ≡ 11) × (new ≡ old))
    ⊎ ((e : Entry) × (entry_in line ≡ Some e) × TellsWhetherKept old e number new)

-- A wrong step is told, and the words of its rule fit into so much room or don't; or memory was refused.
abbrev pub TellsStep : WrongStep → ℕ → ℕ → (place block needed : ℕ) → Type 0
TellsStep step room number place block needed =
    (number ≡ 11)
    ⊎ ((place ≡ step.place) × (block ≡ broken_at step.broken)
    × (((number ≡ 128) × (needed ≤ room)) ⊎ ((number ≡ 103) × (room < needed))))

-- The first wrong step was asked for, with so much room for the words of its rule: there is none, or it is told.
abbrev pub TellsWrong : SlotCheckerRun → ℕ → ℕ → (place block needed : ℕ) → Type 0
TellsWrong r room number place block needed =
    ((number ≡ 0) × (r.wrong ≡ None))
    ⊎ ((step : WrongStep) × (r.wrong ≡ Some step) × TellsStep step room number place block needed)
