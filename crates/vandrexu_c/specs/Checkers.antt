-- What a handle of a checker owns, and what its calls answer.
use Rattle.std.specs.Prelude.{Bool, List, None, Option, Some, [], false, true, ℕ, ◌<◌, ◌≤◌, ◌∷◌, ◌≡◌, ◌⊎◌}
use Rattle.c_handles.specs.Owned.{Keeps, mark}
use Rattle.nvme_model.specs.Config.{config_fault, config_fault_number}
use Rattle.nvme_model.specs.History.{Past}
use Rattle.nvme_model.specs.Legal.{legal}
use Rattle.nvme_model.specs.declared.config.ConfigFault.{ConfigFault}
use Rattle.nvme_model.specs.declared.config.ConfigNumbers.{ConfigNumbers}
use Rattle.nvme_model.specs.declared.entry.Entry.{Entry}
use Rattle.history.specs.Lines.{entry_in}
use Rattle.history_check.specs.Kept.{CheckerRun, Stands}

-- a handle owns a checker that has taken no line, of a configuration that isn't refused
abbrev pub IsNewChecker : ConfigNumbers → Option CheckerRun → Type 0
IsNewChecker c o = Keeps o (Stands c []) × (config_fault c ≡ None)

-- why no checker was made: the handle owns one, this is the first fault of the configuration, or memory was refused
abbrev pub MayRefuseChecker : {A : Type 0} → ConfigNumbers → Option A → ℕ → Type 0
MayRefuseChecker c o number =
    ((number ≡ 102) × (mark o ≡ 1))
    ⊎ ((fault : ConfigFault) × (config_fault c ≡ Some fault) × (number ≡ config_fault_number fault))
    ⊎ ((number ≡ 11) × (config_fault c ≡ None))

-- 0 for legal, 108 for not
abbrev pub legal_number : Bool → ℕ
legal_number true = 0
legal_number false = 108

-- An entry was offered: memory was refused, and it wasn't taken; or it was, and it is told whether all are legal.
abbrev pub TellsWhetherLegal : CheckerRun → Entry → ℕ → CheckerRun → Type 0
TellsWhetherLegal old e number new =
    ((number ≡ 11) × (new ≡ old))
    ⊎ ((past : Past) → Stands old.config past old →
    (number ≡ legal_number (legal old.config (e ∷ past))) × Stands old.config (e ∷ past) new)

-- A line was offered: it is none of a history, or memory was refused, and it wasn't taken; or its entry was offered.
abbrev pub TellsTaken : CheckerRun → List ℕ → ℕ → CheckerRun → Type 0
TellsTaken old line number new =
    ((number ≡ 107) × (entry_in line ≡ None) × (new ≡ old))
    ⊎ ((number ≡ 11) × (new ≡ old))
    ⊎ ((e : Entry) × (entry_in line ≡ Some e) × TellsWhetherLegal old e number new)

-- whether this entry, behind those that were taken, is legal
abbrev pub IsNext : Bool → CheckerRun → Entry → Type 0
IsNext b r e = (past : Past) → Stands r.config past r → legal r.config (e ∷ past) ≡ b

-- why no words are told: the line is none of a history, memory was refused, or its entry is legal
abbrev pub TellsNone : CheckerRun → List ℕ → ℕ → Type 0
TellsNone r line number =
    ((number ≡ 107) × (entry_in line ≡ None))
    ⊎ (number ≡ 11)
    ⊎ ((number ≡ 0) × ((e : Entry) × (entry_in line ≡ Some e) × IsNext true r e))

-- The words of a line's first broken rule were asked for, with so much room: there are none, or they fit or don't.
abbrev pub TellsWhy : CheckerRun → List ℕ → ℕ → ℕ → ℕ → Type 0
TellsWhy r line room number needed =
    TellsNone r line number
    ⊎ ((((number ≡ 108) × (needed ≤ room)) ⊎ ((number ≡ 103) × (room < needed)))
    × ((e : Entry) × (entry_in line ≡ Some e) × IsNext false r e))
