-- The text of a web page of a history: its head, and then the lines of the history with their words.
use Rattle.std.specs.Prelude.{◌++◌, ◌∷◌, ℕ, Err, IfSome, List, None, Ok, Option, Result, Some, [], option_map}
use Rattle.nvme_model.specs.FirstBad.{first_bad_of}
use Rattle.nvme_model.specs.declared.config.ConfigNumbers.{ConfigNumbers}
use Rattle.nvme_model.specs.declared.entry.Entry.{Entry}
use Rattle.history.specs.Lines.{entry_in}
use Rattle.history_words.specs.Told.{entry_painted}
use Rattle.history_words.specs.declared.paint.Paint.{Paint}
use Rattle.casdisk_texts.specs.Checked.{HasMade}
use Rattle.casdisk_texts.specs.Explained.{IsExplanation}
use Rattle.casdisk_texts.specs.Meaning.{Meaning}
use Rattle.casdisk_texts.specs.Running.{RunsScript}
use Rattle.casdisk_texts.specs.Script.{Outcome, script_outcome}
use Rattle.casdisk_texts.specs.declared.explaining.Explained.{Explained}
use Rattle.casdisk_texts.specs.declared.fault.RunFault.{RunFault}
use Rattle.picture_svg.specs.Pieces.{escaped}

-- a line of a page, where what has a meaning in HTML is replaced
abbrev pub line_shown : List ℕ → List ℕ
line_shown words = escaped words ++ 10 ∷ []

-- What a page has of an entry and its line, by the first bad place of the entries before it: the line, and then its
-- words, as `tell` says them; nothing behind a bad one.
abbrev pub step_shown : Option ℕ → List ℕ → Entry → List ℕ
step_shown None line e = line_shown line ++ line_shown (entry_painted Paint.Plain e)
step_shown (Some place) line e = []

-- the line of an entry adds it, and stands in the page up to and with the first bad one
abbrev pub page_line : ConfigNumbers → Meaning
page_line c past line = option_map (λ e. (e ∷ past, step_shown (first_bad_of c past) line e)) (entry_in line)

-- a head before a text, where there is one
abbrev pub headed : List ℕ → List ℕ → List ℕ
headed head [] = []
headed head (b ∷ bs) = head ++ (b ∷ bs)

-- The page of a whole input, and how that ends: the head, the configuration line, and what it has of each line. Nothing
-- where the first line is no configuration line, or its configuration is refused.
abbrev pub page_outcome : List ℕ → List ℕ → Outcome
page_outcome head input =
    let history = script_outcome page_line input in
    record { text = headed head history.text; end = history.end; past = history.past }

-- By what was answered of a file: its whole page, and whether its history is legal, or its first bad step with the rule
-- that it breaks; or how the page ends.
abbrev pub PrintsPage : List ℕ → Result Explained RunFault → (input left old new : Option (List ℕ)) → Type 0
PrintsPage head (Ok x) input left old new =
    RunsScript (page_outcome head) (Ok tt) input left old new
    × IfSome input (HasMade page_line (λ c past. IsExplanation c past x))
PrintsPage head (Err f) input left old new = RunsScript (page_outcome head) (Err f) input left old new
