-- What a race writes.
use Rattle.std.specs.Prelude.{All, Err, List, Ok, Option, Result, reverse, ℕ}
use Rattle.std.specs.Io.KnownBytes.{Appends, Keeps}
use Rattle.line_text.specs.Known.{AppendsFront}
use Rattle.history.specs.Lines.{HasLine}
use Rattle.nvme_model.specs.History.{Past}
use Rattle.nvme_model.specs.Legal.{IsLegal}
use Rattle.nvme_model.specs.declared.config.ConfigNumbers.{ConfigNumbers}
use Rattle.nvme_model.specs.declared.entry.Entry.{Entry}
use Rattle.history.specs.Texts.{history_text}
use Rattle.race.specs.declared.fault.RaceFault.{RaceFault}
use Rattle.race.specs.declared.fault.RaceFault.TheVariants.{BadAt, Forgotten, NoMemory, Output}

-- the whole text of a legal history, each of whose entries has a line, was written
abbrev pub PrintsLegal : ConfigNumbers → Option (List ℕ) → Option (List ℕ) → Type 0
PrintsLegal c old new =
    (past : Past) × IsLegal c past × All HasLine (reverse past) × Appends old new (history_text c (reverse past))

-- or a beginning of it, maybe nothing
abbrev pub PrintsBeginning : ConfigNumbers → Option (List ℕ) → Option (List ℕ) → Type 0
PrintsBeginning c old new = (past : Past) × IsLegal c past × AppendsFront old new (history_text c (reverse past))

-- by what printing a history answered: its whole text was written, or a beginning of it
abbrev pub TellsHistory : ConfigNumbers → List Entry → Result (Unit {0}) RaceFault → Option (List ℕ) → Option (List ℕ)
    → Type 0
TellsHistory c entries (Ok x) old new = Appends old new (history_text c entries)
TellsHistory c entries (Err Output) old new = AppendsFront old new (history_text c entries)
TellsHistory c entries (Err NoMemory) old new = AppendsFront old new (history_text c entries)
TellsHistory c entries (Err (BadAt k)) old new = ⊥
TellsHistory c entries (Err Forgotten) old new = ⊥

-- By what a race answered. That its history isn't legal it never answers. Nothing is written of a history that isn't
-- there whole.
abbrev pub Races : ConfigNumbers → Result (Unit {0}) RaceFault → Option (List ℕ) → Option (List ℕ) → Type 0
Races c (Ok x) old new = PrintsLegal c old new
Races c (Err Output) old new = PrintsBeginning c old new
Races c (Err NoMemory) old new = PrintsBeginning c old new
Races c (Err Forgotten) old new = Keeps old new
Races c (Err (BadAt k)) old new = ⊥
