-- What a run leaves whose steps are judged as they are made.
use Rattle.std.specs.Prelude.{◌≡◌, ℕ, Err, IfSome, List, Ok, Option, Result, Some, is_none}
use Rattle.line_text.specs.Lines.{whole_lines}
use Rattle.nvme_model.specs.History.{Past}
use Rattle.nvme_model.specs.declared.config.ConfigNumbers.{ConfigNumbers}
use Rattle.casdisk_texts.specs.Files.{IsAnswer}
use Rattle.casdisk_texts.specs.Judged.{answer_text}
use Rattle.casdisk_texts.specs.Meaning.{Meaning}
use Rattle.casdisk_texts.specs.Running.{RunsScript}
use Rattle.casdisk_texts.specs.Script.{first_config, script_outcome}
use Rattle.casdisk_texts.specs.declared.fault.RunFault.{RunFault}

-- this holds of the configuration of a script and of the history that it makes
abbrev pub HasMade : (ConfigNumbers → Meaning) → (ConfigNumbers → Past → Type 0) → List ℕ → Type 0
HasMade meaning Holds input =
    (c : ConfigNumbers) × (first_config (whole_lines input) ≡ Some c) × Holds c (script_outcome meaning input).past

-- By what was answered: the script was run to its end, and a check of the history that it made answers so, by its first
-- bad place; or how the run ended.
abbrev pub RunsChecked : (ConfigNumbers → Meaning) → Result (Option ℕ) RunFault → (input left old new : Option (List ℕ))
    → Type 0
RunsChecked meaning (Ok bad) input left old new =
    RunsScript (script_outcome meaning) (Ok tt) input left old new
    × IfSome input (HasMade meaning (λ c past. IsAnswer c past (is_none bad) (answer_text bad)))
RunsChecked meaning (Err f) input left old new = RunsScript (script_outcome meaning) (Err f) input left old new
