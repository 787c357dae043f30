-- What is said of a file of entries.
use Rattle.std.specs.Prelude.{◌≡◌, ◌⊎◌, ℕ, Bool, true, false, List, [], ◌∷◌, ◌++◌, Option, Some, IfSome, Result, Ok}
use Rattle.std.specs.Prelude.{Err, codes, decimal, option_map, reverse}
use Rattle.std.specs.Io.KnownBytes.{Appends, Consumes, IsAtEnd, Keeps}
use Rattle.std.specs.List.{join_with_byte}
use Rattle.line_text.specs.Known.{AppendsFront}
use Rattle.line_text.specs.Lines.{whole_lines}
use Rattle.nvme_model.specs.FirstBad.{IsFirstBad}
use Rattle.nvme_model.specs.History.{Past}
use Rattle.nvme_model.specs.Legal.{IsLegal}
use Rattle.nvme_model.specs.declared.config.ConfigNumbers.{ConfigNumbers}
use Rattle.history.specs.Lines.{entry_in}
use Rattle.casdisk_texts.specs.Meaning.{Meaning}
use Rattle.casdisk_texts.specs.Script.{ScriptEnd, IsOpenEnd, Outcome, bad_config, bad_line, cut, done, first_config}
use Rattle.casdisk_texts.specs.Script.{script_outcome}
use Rattle.casdisk_texts.specs.declared.fault.RunFault.{RunFault}
use Rattle.casdisk_texts.specs.declared.fault.RunFault.TheVariants.{BadLine, BadConfig, Input, Output, NoMemory}

-- the line of an entry adds it, and prints nothing
abbrev pub entry_added : Meaning
entry_added past line = option_map (λ e. (e ∷ past, [])) (entry_in line)

-- how a file ends, and the history that it has
abbrev pub file_of : List ℕ → Outcome
file_of input = script_outcome (λ c. entry_added) input

-- the lines of a check
abbrev pub legal_text : List ℕ
legal_text = codes "legal" ++ 10 ∷ []

-- the line `bad at K`
abbrev pub bad_text : ℕ → List ℕ
bad_text place = join_with_byte 32 (codes "bad" ∷ codes "at" ∷ decimal place ∷ []) ++ 10 ∷ []

-- the answer on a history, and its line: `legal`, or `bad at K` with the first place, from 1, at which it isn't
abbrev pub IsAnswer : ConfigNumbers → Past → Bool → List ℕ → Type 0
IsAnswer c past true text = IsLegal c past × (text ≡ legal_text)
IsAnswer c past false text = (place : ℕ) × IsFirstBad c (reverse past) place × (text ≡ bad_text place)

-- the lines of a file are all read, and this holds of its configuration and its history
abbrev pub HasHistory : (ConfigNumbers → Past → Type 0) → List ℕ → Type 0
HasHistory Holds input =
    ((file_of input).end ≡ done)
    × ((c : ConfigNumbers) × (first_config (whole_lines input) ≡ Some c) × Holds c (file_of input).past)

-- the answer on the history of a file, and its line
abbrev pub IsAnswerOf : List ℕ → Bool → List ℕ → Type 0
IsAnswerOf input answer text = HasHistory (λ c past. IsAnswer c past answer text) input

-- the file ends so
abbrev pub EndsSo : ScriptEnd → Option (List ℕ) → Type 0
EndsSo e input = IfSome input (λ bytes. (file_of bytes).end ≡ e)

-- By why the lines of a file weren't all read: how it ends, or that no line of what was read is bad.
abbrev pub IsUnread : RunFault → Option (List ℕ) → Option (List ℕ) → Type 0
IsUnread (BadLine n) input left = EndsSo (bad_line n) input ⊎ EndsSo (cut n) input
IsUnread (BadConfig c) input left = EndsSo (bad_config c) input
IsUnread Input input left = (bytes : List ℕ) × Consumes input left bytes × IsOpenEnd (file_of bytes).end
IsUnread Output input left = ⊥
IsUnread NoMemory input left = Unit {0}

-- By what a check of a file answered: its one line, and the reader at its end; nothing; or a beginning of that line.
abbrev pub ChecksText : Result Bool RunFault → (input left old new : Option (List ℕ)) → Type 0
ChecksText (Ok answer) input left old new =
    IsAtEnd left × IfSome input (λ bytes. (text : List ℕ) × IsAnswerOf bytes answer text × Appends old new text)
ChecksText (Err Output) input left old new =
    IfSome input (λ bytes. (answer : Bool) × (text : List ℕ) × IsAnswerOf bytes answer text × AppendsFront old new text)
ChecksText (Err f) input left old new = IsUnread f input left × Keeps old new
