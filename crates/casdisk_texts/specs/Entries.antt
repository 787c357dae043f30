-- What is said of a file whose lines are read as entries, one at a time.
use Rattle.std.specs.Prelude.{◌≡◌, ◌⊎◌, ◌+◌, ℕ, List, [], ◌∷◌, Option, Some, None, IfSome, Result, Ok, Err}
use Rattle.std.specs.Io.KnownBytes.{Consumes, IsAtEnd}
use Rattle.line_text.specs.Lines.{whole_lines}
use Rattle.nvme_model.specs.History.{Past}
use Rattle.nvme_model.specs.declared.config.ConfigNumbers.{ConfigNumbers}
use Rattle.nvme_model.specs.declared.entry.Entry.{Entry}
use Rattle.casdisk_texts.specs.Files.{HasHistory, IsUnread, entry_added, file_of}
use Rattle.casdisk_texts.specs.Running.{Reached}
use Rattle.casdisk_texts.specs.Script.{IsOpenEnd, bad_line, cut, done, first_config}
use Rattle.casdisk_texts.specs.declared.fault.RunFault.{RunFault}
use Rattle.casdisk_texts.specs.declared.fault.RunFault.TheVariants.{BadLine, Input, NoMemory}

-- the lines before number n were read, and have these entries
abbrev pub IsReadTo : Past → ℕ → (input left : Option (List ℕ)) → List ℕ → Type 0
IsReadTo past n input left held = Reached file_of entry_added past n input left None None held

-- the first line was read, and has this configuration
pub record IsBegun (c : ConfigNumbers) (input left : Option (List ℕ)) (held : List ℕ) : Type 0 where
  pub config : IfSome input (λ bytes. first_config (whole_lines bytes) ≡ Some c)
  pub read : IsReadTo [] 2 input left held

-- By why no entry more was read: how the file ends, or that no line of what was read is bad. It has these entries.
abbrev pub StopsBehind : Past → RunFault → (input left : Option (List ℕ)) → Type 0
StopsBehind past (BadLine n) input left =
    IfSome input (λ bytes. (((file_of bytes).end ≡ bad_line n) ⊎ ((file_of bytes).end ≡ cut n))
    × ((file_of bytes).past ≡ past))
StopsBehind past Input input left =
    (bytes : List ℕ) × Consumes input left bytes × IsOpenEnd (file_of bytes).end × ((file_of bytes).past ≡ past)
StopsBehind past NoMemory input left = Unit {0}
StopsBehind past f input left = ⊥

-- By what line n gave: an entry more; nothing, since the file is read to its end; or why not.
abbrev pub GivesEntry : Past → ℕ → Result (Option Entry) RunFault → (input left : Option (List ℕ)) → List ℕ → Type 0
GivesEntry past n (Ok (Some e)) input left held = IsReadTo (e ∷ past) (n + 1) input left held
GivesEntry past n (Ok None) input left held =
    IsAtEnd left × IfSome input (λ bytes. ((file_of bytes).end ≡ done) × ((file_of bytes).past ≡ past))
GivesEntry past n (Err f) input left held = StopsBehind past f input left

-- By how a file was read: this holds of its configuration and its history; or why its lines weren't all read.
abbrev pub ReadsHistory : (ConfigNumbers → Past → Type 0) → Result (Unit {0}) RunFault →
    (input left : Option (List ℕ)) → Type 0
ReadsHistory Holds (Ok x) input left = IsAtEnd left × IfSome input (HasHistory Holds)
ReadsHistory Holds (Err f) input left = IsUnread f input left
