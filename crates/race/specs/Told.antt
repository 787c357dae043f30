-- What a check of a race's text says.
use Rattle.std.specs.Prelude.{Bool, Err, List, Ok, Option, Result, true, ℕ, ◌≡◌}
use Rattle.std.specs.Io.KnownBytes.{Appends, Keeps}
use Rattle.line_text.specs.Known.{AppendsFront}
use Rattle.casdisk_texts.specs.Files.{legal_text}
use Rattle.casdisk_texts.specs.declared.fault.RunFault.{RunFault}
use Rattle.casdisk_texts.specs.declared.fault.RunFault.TheVariants.{BadConfig, BadLine, Input, NoMemory, Output}

-- By what a check answered: it said `legal`, or a beginning of it, or nothing where reading failed or memory ran out.
-- That a line or the configuration is bad it never answers.
abbrev pub SaysLegal : Result Bool RunFault → Option (List ℕ) → Option (List ℕ) → Type 0
SaysLegal (Ok answer) old new = (answer ≡ true) × Appends old new legal_text
SaysLegal (Err Output) old new = AppendsFront old new legal_text
SaysLegal (Err Input) old new = Keeps old new
SaysLegal (Err NoMemory) old new = Keeps old new
SaysLegal (Err (BadLine n)) old new = ⊥
SaysLegal (Err (BadConfig n)) old new = ⊥
