-- What a race some of whose hosts die writes.
use Rattle.std.specs.Prelude.{All, Err, List, Ok, Option, Result, false, length, reverse, take, true, ℕ, ◌-◌, ◌<◌, ◌≡◌}
use Rattle.std.specs.Prelude.{◌≢◌, ◌≤◌}
use Rattle.std.specs.Io.KnownBytes.{Appends, Keeps}
use Rattle.line_text.specs.Known.{AppendsFront}
use Rattle.history.specs.Lines.{HasLine}
use Rattle.nvme_model.specs.Array.{has_block, zeros}
use Rattle.nvme_model.specs.History.{Past}
use Rattle.nvme_model.specs.Legal.{IsLegal}
use Rattle.nvme_model.specs.Medium.{medium}
use Rattle.nvme_model.specs.declared.array.Range.{Range}
use Rattle.nvme_model.specs.declared.config.ConfigNumbers.{ConfigNumbers}
use Rattle.history.specs.Texts.{history_text}
use Rattle.host_laws.specs.Rules.{takeover_disciplined}
use Rattle.nvme_model.specs.declared.entry.Entry.{Entry}
use Rattle.race.specs.Races.{PrintsBeginning}
use Rattle.race.specs.declared.crash_fault.CrashFault.{CrashFault}
use Rattle.race.specs.declared.crash_fault.CrashFault.TheVariants.{NoHistory, NoMemory, Output, SlotHeld, SlotsAt}

-- the status with which the program ends after such a fault
abbrev pub crash_exit_status : CrashFault → ℕ
crash_exit_status NoHistory = 1
crash_exit_status (SlotsAt k) = 1
crash_exit_status SlotHeld = 1
crash_exit_status Output = 3
crash_exit_status NoMemory = 4

-- each block of the area lies in the volume as zeros: nobody has its slot
abbrev pub AreSlotsFree : Range → Past → Type 0
AreSlotsFree slots past = (l : ℕ) → has_block slots l ≡ true → medium past l ≡ zeros

-- The history keeps the discipline of a slot area with takeovers, and in the end each slot of it is free.
pub record KeepsTakeovers (c : ConfigNumbers) (slots : Range) (past : Past) : Type 0 where
  pub disciplined : takeover_disciplined c slots past ≡ true
  pub free : AreSlotsFree slots past

-- the whole text of a legal history, each of whose entries has a line, was written, and it keeps its slots so
abbrev pub PrintsTakeovers : ConfigNumbers → Range → Option (List ℕ) → Option (List ℕ) → Type 0
PrintsTakeovers c slots old new =
    (past : Past) × IsLegal c past × All HasLine (reverse past) × KeepsTakeovers c slots past
    × Appends old new (history_text c (reverse past))

-- The entry at this place, from 1, is the first with which the history breaks the discipline of a slot area with
-- takeovers: up to it the history doesn't keep the discipline, and up to the one before it does.
pub record BreaksAt (c : ConfigNumbers) (slots : Range) (entries : List Entry) (place : ℕ) : Type 0 where
  pub there : (1 ≤ place) × (place ≤ length entries)
  pub kept : takeover_disciplined c slots (reverse (take (place - 1) entries)) ≡ true
  pub broken : takeover_disciplined c slots (reverse (take place entries)) ≡ false

-- a slot of the area isn't free: the volume lacks its block, or that isn't zeros
abbrev pub HasHeld : ConfigNumbers → Range → Past → Type 0
HasHeld c slots past = (l : ℕ) × (has_block slots l ≡ true) × (l < c.blocks → medium past l ≢ zeros)

-- Why a history isn't written: the entry at this place breaks the discipline first; or it keeps it, and a slot isn't
-- free in the end.
abbrev pub IsUnkept : ConfigNumbers → Range → Past → CrashFault → Type 0
IsUnkept c slots past NoMemory = Unit {0}
IsUnkept c slots past NoHistory = ⊥
IsUnkept c slots past (SlotsAt k) = BreaksAt c slots (reverse past) k
IsUnkept c slots past SlotHeld = (takeover_disciplined c slots past ≡ true) × HasHeld c slots past
IsUnkept c slots past Output = ⊥

-- By what such a race answered. Nothing is written of a history that breaks a rule of its slots, or leaves one held.
abbrev pub Crashes : ConfigNumbers → Range → Result (Unit {0}) CrashFault → Option (List ℕ) → Option (List ℕ) → Type 0
Crashes c slots (Ok x) old new = PrintsTakeovers c slots old new
Crashes c slots (Err Output) old new = PrintsBeginning c old new
Crashes c slots (Err NoMemory) old new = PrintsBeginning c old new
Crashes c slots (Err NoHistory) old new = Keeps old new
Crashes c slots (Err (SlotsAt k)) old new =
    Keeps old new × ((past : Past) × IsLegal c past × IsUnkept c slots past (SlotsAt k))
Crashes c slots (Err SlotHeld) old new =
    Keeps old new × ((past : Past) × IsLegal c past × IsUnkept c slots past SlotHeld)

-- there is no history to judge
abbrev pub IsUnraced : CrashFault → Type 0
IsUnraced NoHistory = Unit {0}
IsUnraced (SlotsAt k) = ⊥
IsUnraced SlotHeld = ⊥
IsUnraced Output = ⊥
IsUnraced NoMemory = Unit {0}

-- why the entries of a history weren't judged to the last
abbrev pub StopsJudging : ConfigNumbers → Range → List Entry → CrashFault → Type 0
StopsJudging c slots entries NoMemory = Unit {0}
StopsJudging c slots entries NoHistory = ⊥
StopsJudging c slots entries (SlotsAt k) = BreaksAt c slots entries k
StopsJudging c slots entries SlotHeld = ⊥
StopsJudging c slots entries Output = ⊥

-- by what printing a history answered: its whole text was written, or a beginning of it
abbrev pub TellsCrash : ConfigNumbers → List Entry → Result (Unit {0}) CrashFault → Option (List ℕ) → Option (List ℕ)
    → Type 0
TellsCrash c entries (Ok x) old new = Appends old new (history_text c entries)
TellsCrash c entries (Err Output) old new = AppendsFront old new (history_text c entries)
TellsCrash c entries (Err NoMemory) old new = AppendsFront old new (history_text c entries)
TellsCrash c entries (Err NoHistory) old new = ⊥
TellsCrash c entries (Err (SlotsAt k)) old new = ⊥
TellsCrash c entries (Err SlotHeld) old new = ⊥
