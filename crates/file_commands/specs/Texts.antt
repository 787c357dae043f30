-- What is said of a file of entries beside an area of slots.
use Rattle.std.specs.Prelude.{Bool, Err, IfSome, List, None, Ok, Option, Result, Some, [], codes, decimal, false}
use Rattle.std.specs.Prelude.{is_none, reverse, true, ℕ, ◌++◌, ◌+◌, ◌<◌, ◌⊎◌, ◌∷◌, ◌≡◌, ◌≤◌}
use Rattle.std.specs.Io.KnownBytes.{Appends, IsAtEnd, Keeps}
use Rattle.std.specs.List.{join_with_byte}
use Rattle.line_text.specs.Known.{AppendsFront}
use Rattle.line_text.specs.Lines.{whole_lines}
use Rattle.nvme_model.specs.FirstBad.{IsFirstBad}
use Rattle.nvme_model.specs.History.{Past}
use Rattle.nvme_model.specs.Legal.{IsLegal}
use Rattle.host_laws.specs.Rules.{takeover_disciplined}
use Rattle.nvme_model.specs.declared.array.Range.{Range}
use Rattle.nvme_model.specs.declared.config.ConfigNumbers.{ConfigNumbers}
use Rattle.broken_rules.specs.declared.broken.Broken.{Broken}
use Rattle.casdisk_texts.specs.Fault.{exit_status}
use Rattle.casdisk_texts.specs.Files.{HasHistory, IsAnswer, IsUnread, bad_text, legal_text}
use Rattle.casdisk_texts.specs.Judged.{HasFirstBad, first_rule}
use Rattle.casdisk_texts.specs.Script.{first_config}
use Rattle.casdisk_texts.specs.declared.fault.RunFault.{RunFault}
use Rattle.casdisk_texts.specs.declared.fault.RunFault.TheVariants.{BadLine, Output}
use Rattle.file_commands.specs.Wrong.{BreaksFirst, first_wrong}
use Rattle.file_commands.specs.declared.explaining.ExplainedSlots.{ExplainedSlots}
use Rattle.file_commands.specs.declared.explaining.ExplainedSlots.TheVariants.{BadAt, Legal, SlotsBadAt}
use Rattle.file_commands.specs.declared.fault.SlotsFault.{SlotsFault}
use Rattle.file_commands.specs.declared.fault.SlotsFault.TheVariants.{Beyond, NoSlots, Run}
use Rattle.file_commands.specs.declared.judging.WrongStep.{WrongStep}
use Rattle.file_commands.specs.declared.judging.JudgedSlots.{JudgedSlots}

-- the line `slots bad at K`
abbrev pub wrong_text : ℕ → List ℕ
wrong_text place =
    join_with_byte 32 (codes "slots" ∷ codes "bad" ∷ codes "at" ∷ decimal place ∷ []) ++ 10 ∷ []

-- the volume has all blocks of the area
abbrev pub IsWithin : ConfigNumbers → Range → Type 0
IsWithin c slots = slots.slba + slots.blocks ≤ c.blocks

-- The history is legal and breaks the discipline of the area, and this step is the first that does.
abbrev pub IsUndisciplined : ConfigNumbers → Range → Past → WrongStep → Type 0
IsUndisciplined c slots past step =
    IsLegal c past × (takeover_disciplined c slots past ≡ false) × BreaksFirst c slots past step

-- The answer on a history beside an area, and its line: `legal` where it is legal and keeps the discipline; `bad at K`
-- where it isn't legal, whatever is true of the slots; else `slots bad at K`.
abbrev pub IsSlotsAnswer : ConfigNumbers → Range → Past → Bool → List ℕ → Type 0
IsSlotsAnswer c slots past true text = IsAnswer c past true text × (takeover_disciplined c slots past ≡ true)
IsSlotsAnswer c slots past false text =
    IsAnswer c past false text
    ⊎ ((step : WrongStep) × IsUndisciplined c slots past step × (text ≡ wrong_text step.place))

-- the answer on the history of a file, whose volume has the area, and its line
abbrev pub IsSlotsAnswerOf : Range → List ℕ → Bool → List ℕ → Type 0
IsSlotsAnswerOf slots input answer text =
    HasHistory (λ c past. IsWithin c slots × IsSlotsAnswer c slots past answer text) input

-- the volume of a file's configuration, of so many blocks, lacks blocks of the area
abbrev pub IsBeyond : Range → ℕ → List ℕ → Type 0
IsBeyond slots blocks bytes =
    (c : ConfigNumbers) × (first_config (whole_lines bytes) ≡ Some c) × (c.blocks ≡ blocks)
    × (blocks < slots.slba + slots.blocks)

-- the volume of a file's configuration has the area
abbrev pub HasArea : Range → List ℕ → Type 0
HasArea slots bytes = (c : ConfigNumbers) × (first_config (whole_lines bytes) ≡ Some c) × IsWithin c slots

-- where a line behind the first is told to be bad, the volume has the area
abbrev pub HasAreaByThen : Range → RunFault → Option (List ℕ) → Type 0
HasAreaByThen slots (BadLine n) input = 1 < n → IfSome input (HasArea slots)
HasAreaByThen slots fault input = Unit {0}

-- By why a file wasn't judged: the area has no block, and nothing was read; or it has one, and the file wasn't read; or
-- the volume of its configuration, of so many blocks, lacks blocks of the area.
abbrev pub IsUnjudged : Range → SlotsFault → Option (List ℕ) → Option (List ℕ) → Type 0
IsUnjudged slots (Run fault) input left =
    (1 ≤ slots.blocks) × HasAreaByThen slots fault input × IsUnread fault input left
IsUnjudged slots NoSlots input left = (slots.blocks ≡ 0) × (left ≡ input)
IsUnjudged slots (Beyond blocks) input left = (1 ≤ slots.blocks) × IfSome input (IsBeyond slots blocks)

-- By what a check of a file beside an area answered: its one line, and the reader at its end; nothing; or a beginning
-- of that line, and the reader at its end. But for `NoSlots` the area has a block.
abbrev pub ChecksSlots : Range → Result Bool SlotsFault → (input left old new : Option (List ℕ)) → Type 0
ChecksSlots slots (Ok answer) input left old new =
    (1 ≤ slots.blocks) × IsAtEnd left
    × IfSome input (λ bytes. (text : List ℕ) × IsSlotsAnswerOf slots bytes answer text × Appends old new text)
ChecksSlots slots (Err (Run Output)) input left old new =
    (1 ≤ slots.blocks) × IsAtEnd left
    × IfSome input (λ bytes. (answer : Bool) × (text : List ℕ) × IsSlotsAnswerOf slots bytes answer text
    × AppendsFront old new text)
ChecksSlots slots (Err fault) input left old new = IsUnjudged slots fault input left × Keeps old new

-- The history is legal and keeps the discipline; or this is the first place at which it isn't legal, with the rule that
-- is broken there; or it is legal, and this is the first step that breaks the discipline.
abbrev pub IsExplainedSlots : ConfigNumbers → Range → Past → ExplainedSlots → Type 0
IsExplainedSlots c slots past Legal = IsLegal c past × (takeover_disciplined c slots past ≡ true)
IsExplainedSlots c slots past (BadAt step) =
    IsFirstBad c (reverse past) step.place × (first_rule c past ≡ Some step.broken)
IsExplainedSlots c slots past (SlotsBadAt step) = IsUndisciplined c slots past step

-- By what was answered: what the history of the whole file is, or why it isn't said.
abbrev pub ExplainsSlots : Range → Result ExplainedSlots SlotsFault → Option (List ℕ) → Option (List ℕ) → Type 0
ExplainsSlots slots (Ok x) input left =
    (1 ≤ slots.blocks) × IsAtEnd left
    × IfSome input (HasHistory (λ c past. IsWithin c slots × IsExplainedSlots c slots past x))
ExplainsSlots slots (Err fault) input left = IsUnjudged slots fault input left

-- the status with which the program ends
abbrev pub slots_status : SlotsFault → ℕ
slots_status (Run fault) = exit_status fault
slots_status NoSlots = 2
slots_status (Beyond blocks) = 2

-- ---- on the way there

-- This was found in the history: its first bad entry, and where there is none, the first that breaks the discipline.
pub record HasFound (why : Bool) (c : ConfigNumbers) (slots : Range) (past : Past) (found : JudgedSlots) : Type 0 where
  pub within : IsWithin c slots
  pub first : HasFirstBad why c past found.bad
  pub wrong : found.bad.place ≡ None → found.wrong ≡ first_wrong c slots past

-- whether nothing is wrong
abbrev pub found_none : Option ℕ → Option WrongStep → Bool
found_none None wrong = is_none wrong
found_none (Some place) wrong = false

-- the line of an answer
abbrev pub found_text : Option ℕ → Option WrongStep → List ℕ
found_text None None = legal_text
found_text None (Some step) = wrong_text step.place
found_text (Some place) wrong = bad_text place

-- it was written, or a beginning of it
abbrev pub TellsFound : Option ℕ → Option WrongStep → Result Bool RunFault → Option (List ℕ) → Option (List ℕ) → Type 0
TellsFound bad wrong (Ok answer) old new = (answer ≡ found_none bad wrong) × Appends old new (found_text bad wrong)
TellsFound bad wrong (Err Output) old new = AppendsFront old new (found_text bad wrong)
TellsFound bad wrong (Err fault) old new = ⊥

-- what was found says this of a history
abbrev pub explained_slots_of : Option ℕ → Option Broken → Option WrongStep → ExplainedSlots
explained_slots_of (Some place) (Some broken) wrong = BadAt (record { place = place; broken = broken })
explained_slots_of place broken (Some step) = SlotsBadAt step
explained_slots_of place broken None = Legal
