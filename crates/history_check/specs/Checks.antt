-- What the answer of a check says of a list of entries.
use Rattle.std.specs.Prelude.{Err, List, Ok, Result}
use Rattle.nvme_model.specs.FirstBad.{IsFirstBad}
use Rattle.nvme_model.specs.Legal.{IsLegalFile}
use Rattle.nvme_model.specs.declared.config.ConfigNumbers.{ConfigNumbers}
use Rattle.nvme_model.specs.declared.entry.Entry.{Entry}
use Rattle.history_check.specs.declared.checking.CheckFault.{CheckFault}
use Rattle.history_check.specs.declared.checking.CheckFault.TheVariants.{BadAt, NoMemory}

-- The entries, the oldest first, are legal; or this is the first place, from 1, at which they are not; or nothing is
-- said.
abbrev pub Checks : {X : Type 0} → ConfigNumbers → List Entry → Result X CheckFault → Type 0
Checks c entries (Ok _) = IsLegalFile c entries
Checks c entries (Err (BadAt place)) = IsFirstBad c entries place
Checks c entries (Err NoMemory) = Unit {0}
