-- What is said of a file of entries that is checked as it comes, up to its first bad step.
use Rattle.std.specs.Prelude.{◌≡◌, ◌<◌, ℕ, Bool, true, false, List, [], Option, Some, None, IfSome, Result, Ok}
use Rattle.std.specs.Prelude.{Err}
use Rattle.std.specs.Io.KnownBytes.{Appends, Consumes, IsAtEnd, Keeps}
use Rattle.line_text.specs.Known.{AppendsFront}
use Rattle.line_text.specs.Lines.{whole_lines}
use Rattle.nvme_model.specs.History.{Past}
use Rattle.nvme_model.specs.Legal.{IsLegal}
use Rattle.nvme_model.specs.declared.config.ConfigNumbers.{ConfigNumbers}
use Rattle.casdisk_texts.specs.Explained.{IsExplanation}
use Rattle.casdisk_texts.specs.Files.{HasHistory, IsAnswer, IsAnswerOf, IsUnread, file_of}
use Rattle.casdisk_texts.specs.Judged.{HasFirstBad}
use Rattle.casdisk_texts.specs.Script.{IsOpenEnd, Outcome, cut, ending, first_config}
use Rattle.casdisk_texts.specs.declared.explaining.Explained.{Explained}
use Rattle.casdisk_texts.specs.declared.explaining.Explained.TheVariants.{BadAt, Legal}
use Rattle.casdisk_texts.specs.declared.fault.RunFault.{RunFault}
use Rattle.casdisk_texts.specs.declared.fault.RunFault.TheVariants.{BadLine, Input, Output}
use Rattle.casdisk_texts.specs.declared.judging.FirstBad.{FirstBad}

-- this holds of the configuration of a file and of the entries before its first bad line, if it has one
abbrev pub HasStart : (ConfigNumbers → Outcome → Type 0) → List ℕ → Type 0
HasStart Holds input = (c : ConfigNumbers) × (first_config (whole_lines input) ≡ Some c) × Holds c (file_of input)

-- entries of a file are legal by its configuration, where it has one
abbrev pub AreLegalIn : List ℕ → Past → Type 0
AreLegalIn input past = (c : ConfigNumbers) → first_config (whole_lines input) ≡ Some c → IsLegal c past

-- The answer on a file, and its line. Behind the first bad step any lines may stand.
abbrev pub IsFollowed : Bool → List ℕ → List ℕ → Type 0
IsFollowed true text input = IsAnswerOf input true text
IsFollowed false text input = HasStart (λ c file. IsAnswer c file.past false text) input

-- By why no answer was written: as where a file is read whole, and no step before is bad.
abbrev pub IsUnfollowed : RunFault → Option (List ℕ) → Option (List ℕ) → Type 0
IsUnfollowed (BadLine n) input left =
    IsUnread (BadLine n) input left × (1 < n → IfSome input (λ all. AreLegalIn all (file_of all).past))
IsUnfollowed Input input left =
    (bytes : List ℕ) × Consumes input left bytes × IsOpenEnd (file_of bytes).end
    × IfSome input (λ all. AreLegalIn all (file_of bytes).past)
IsUnfollowed f input left = IsUnread f input left

-- By what a check that follows a file answered: `legal`, and the reader at its end; `bad at K`, of what was read and
-- whatever comes behind it; nothing; or a beginning of a line.
abbrev pub FollowsText : Result Bool RunFault → (input left old new : Option (List ℕ)) → Type 0
FollowsText (Ok true) input left old new =
    IsAtEnd left × IfSome input (λ bytes. (text : List ℕ) × IsFollowed true text bytes × Appends old new text)
FollowsText (Ok false) input left old new =
    IfSome input (λ bytes. (text : List ℕ) × IsFollowed false text bytes × Appends old new text)
FollowsText (Err Output) input left old new =
    IfSome input (λ bytes. (answer : Bool) × (text : List ℕ) × IsFollowed answer text bytes × AppendsFront old new text)
FollowsText (Err f) input left old new = IsUnfollowed f input left × Keeps old new

-- By what was answered of a file that is explained as it comes: it is legal, and the reader at its end; or this is its
-- first bad step, whatever comes behind it, and the first rule that it breaks; or why nothing is said.
abbrev pub ExplainsFollowed : Result Explained RunFault → Option (List ℕ) → Option (List ℕ) → Type 0
ExplainsFollowed (Ok Legal) input left = IfSome input (λ bytes. IsAtEnd left × HasHistory IsLegal bytes)
ExplainsFollowed (Ok (BadAt step)) input left =
    IfSome input (HasStart (λ c file. IsExplanation c file.past (BadAt step)))
ExplainsFollowed (Err f) input left = IsUnfollowed f input left

-- ---- on the way there

-- the first line was none, or it wasn't read
abbrev pub StopsFirst : RunFault → Option (List ℕ) → Option (List ℕ) → Type 0
StopsFirst (BadLine n) input left = n ≡ 1
StopsFirst Input input left = (bytes : List ℕ) × Consumes input left bytes × (file_of bytes ≡ ending (cut 1) [])
StopsFirst f input left = Unit {0}

-- by its place: the file is read to its end and legal, or this is its first bad step, with its rule where it is asked
abbrev pub IsFollowedTo : Bool → FirstBad → Option ℕ → Option (List ℕ) → Option (List ℕ) → Type 0
IsFollowedTo why bad None input left = IsAtEnd left × IfSome input (HasHistory IsLegal)
IsFollowedTo why bad (Some place) input left = IfSome input (HasStart (λ c file. HasFirstBad why c file.past bad))

-- By how far a file was followed: to its end or to its first bad step; or why not.
abbrev pub FollowsHistory : Bool → Result FirstBad RunFault → (input left : Option (List ℕ)) → Type 0
FollowsHistory why (Ok bad) input left = IsFollowedTo why bad bad.place input left
FollowsHistory why (Err f) input left = IsUnfollowed f input left
