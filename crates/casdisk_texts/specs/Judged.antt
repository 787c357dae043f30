-- What was judged of a list of entries, and its line.
use Rattle.std.specs.Prelude.{◌≡◌, ℕ, Bool, true, if◌then◌else◌, List, [], ◌∷◌, Option, Some, None, Result, Ok, Err}
use Rattle.std.specs.Prelude.{is_none, length}
use Rattle.std.specs.Io.KnownBytes.{Appends}
use Rattle.line_text.specs.Known.{AppendsFront}
use Rattle.nvme_model.specs.FirstBad.{first_bad_of}
use Rattle.nvme_model.specs.History.{Past}
use Rattle.nvme_model.specs.Legal.{legal}
use Rattle.nvme_model.specs.declared.config.ConfigNumbers.{ConfigNumbers}
use Rattle.broken_rules.specs.Broken.{first_broken}
use Rattle.broken_rules.specs.declared.broken.Broken.{Broken}
use Rattle.history_check.specs.Kept.{Stands, CheckerRun}
use Rattle.casdisk_texts.specs.Files.{bad_text, legal_text}
use Rattle.casdisk_texts.specs.declared.fault.RunFault.{RunFault}
use Rattle.casdisk_texts.specs.declared.fault.RunFault.TheVariants.{Output}
use Rattle.casdisk_texts.specs.declared.judging.FirstBad.{FirstBad}

-- The rule that the first entry that may not follow breaks first: the last one, or one before it.
abbrev pub first_rule : ConfigNumbers → Past → Option Broken
first_rule c [] = None
first_rule c (e ∷ past) = if legal c past then first_broken c past e else first_rule c past

-- this is the first place at which the entries are no longer legal, and, where it is asked, the rule broken there
pub record HasFirstBad (why : Bool) (c : ConfigNumbers) (past : Past) (bad : FirstBad) : Type 0 where
  pub place : bad.place ≡ first_bad_of c past
  pub rule : why ≡ true → bad.broken ≡ first_rule c past

-- so many entries were judged, this is the first bad one, and where there is none the checker stands for them
pub record HasJudged (why : Bool) (c : ConfigNumbers) (past : Past) (x : CheckerRun) (count : ℕ)
    (bad : FirstBad) : Type 0
  where
    pub counted : count ≡ length past
    pub first : HasFirstBad why c past bad
    pub stands : bad.place ≡ None → Stands c past x

-- the line of an answer
abbrev pub answer_text : Option ℕ → List ℕ
answer_text None = legal_text
answer_text (Some place) = bad_text place

-- it was written, or a beginning of it
abbrev pub TellsAnswer : Option ℕ → Result Bool RunFault → Option (List ℕ) → Option (List ℕ) → Type 0
TellsAnswer bad (Ok answer) old new = (answer ≡ is_none bad) × Appends old new (answer_text bad)
TellsAnswer bad (Err Output) old new = AppendsFront old new (answer_text bad)
TellsAnswer bad (Err f) old new = ⊥
