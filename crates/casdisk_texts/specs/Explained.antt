-- What is said of a file of entries that is explained.
use Rattle.std.specs.Prelude.{◌≡◌, ℕ, List, Option, Some, IfSome, Result, Ok, Err, reverse}
use Rattle.std.specs.Io.KnownBytes.{IsAtEnd}
use Rattle.broken_rules.specs.declared.broken.Broken.{Broken}
use Rattle.nvme_model.specs.FirstBad.{IsFirstBad}
use Rattle.nvme_model.specs.History.{Past}
use Rattle.nvme_model.specs.Legal.{IsLegal}
use Rattle.nvme_model.specs.declared.config.ConfigNumbers.{ConfigNumbers}
use Rattle.casdisk_texts.specs.Files.{HasHistory, IsUnread}
use Rattle.casdisk_texts.specs.Judged.{first_rule}
use Rattle.casdisk_texts.specs.declared.explaining.Explained.{Explained}
use Rattle.casdisk_texts.specs.declared.explaining.Explained.TheVariants.{Legal, BadAt}
use Rattle.casdisk_texts.specs.declared.fault.RunFault.{RunFault}

-- The history is legal; or this is the first place at which it isn't, and the first rule that the entry there breaks.
abbrev pub IsExplanation : ConfigNumbers → Past → Explained → Type 0
IsExplanation c past Legal = IsLegal c past
IsExplanation c past (BadAt step) = IsFirstBad c (reverse past) step.place × (first_rule c past ≡ Some step.broken)

-- By what was answered: what the history of the whole file is, or why it isn't said.
abbrev pub ExplainsText : Result Explained RunFault → Option (List ℕ) → Option (List ℕ) → Type 0
ExplainsText (Ok x) input left = IsAtEnd left × IfSome input (HasHistory (λ c past. IsExplanation c past x))
ExplainsText (Err f) input left = IsUnread f input left

-- what the first entry that breaks a rule, if there is one, says of the history
abbrev pub explained_of : Option ℕ → Option Broken → Explained
explained_of (Some place) (Some broken) = BadAt (record { place = place; broken = broken })
explained_of place broken = Legal
