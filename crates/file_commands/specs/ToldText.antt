-- What is told of the text of a history, and how it ends.
use Rattle.std.specs.Prelude.{List, None, Option, Some, [], codes, option_map, ℕ, ◌++◌, ◌∷◌}
use Rattle.line_text.specs.Lines.{rest_line, whole_lines}
use Rattle.nvme_model.specs.Config.{config_fault, config_fault_number}
use Rattle.nvme_model.specs.declared.config.ConfigFault.{ConfigFault}
use Rattle.nvme_model.specs.declared.config.ConfigNumbers.{ConfigNumbers}
use Rattle.nvme_model.specs.declared.entry.Entry.{Entry}
use Rattle.history.specs.ConfigLine.{config_in}
use Rattle.history.specs.Lines.{entry_in}
use Rattle.casdisk_texts.specs.Meaning.{Meaning}
use Rattle.casdisk_texts.specs.Objects.{object_text, plain_fields}
use Rattle.casdisk_texts.specs.Script.{Outcome, bad_config, bad_line, cut, ending, lines_print, prefixed}
use Rattle.history_words.specs.BesideLines.{beside_painted}
use Rattle.history_words.specs.Told.{config_painted, entry_painted}
use Rattle.history_words.specs.declared.paint.Paint.{Paint}
use Rattle.file_commands.specs.declared.telling.Telling.{Telling}
use Rattle.file_commands.specs.declared.telling.Telling.TheVariants.{Lines, Objects}

-- whether words are coloured; an object's never are
abbrev pub paint_of : Telling → Paint
paint_of (Lines paint) = paint
paint_of Objects = Paint.Plain

-- what is written for these words: a line, or an object
abbrev pub told_as : Telling → List ℕ → List ℕ
told_as (Lines paint) text = text ++ 10 ∷ []
told_as Objects text = object_text (plain_fields (codes "told")) text

-- what is written for a configuration
abbrev pub config_as : Telling → ConfigNumbers → List ℕ
config_as telling c = told_as telling (config_painted (paint_of telling) c)

-- what is told of a line: of an entry, or else of a refusal or a block, as runs print them; None where it is neither
abbrev pub line_told : Paint → List ℕ → Option Entry → Option (List ℕ)
line_told paint line (Some e) = Some (entry_painted paint e)
line_told paint line None = beside_painted paint line

-- a line is told in words, whatever stands before it
abbrev pub told_line : Telling → Meaning
told_line telling past line =
    option_map (λ text. (past, told_as telling text)) (line_told (paint_of telling) line (entry_in line))

-- what is told of a configuration, which may be refused, and of what follows
abbrev pub told_numbers : Telling → ConfigNumbers → Option ConfigFault → Outcome → Outcome
told_numbers telling c None more = prefixed (config_as telling c) more
told_numbers telling c (Some fault) more = ending (bad_config (config_fault_number fault)) []

-- what is told of a first line, by what it says, and of what follows
abbrev pub told_first_line : Telling → Option ConfigNumbers → Outcome → Outcome
told_first_line telling None more = ending (bad_line 1) []
told_first_line telling (Some c) more = told_numbers telling c (config_fault c) more

-- what is told of a configuration line and the lines behind it
unfoldable pub told_prints : Telling → List (List ℕ) → List ℕ → Outcome
told_prints telling [] rest = ending (cut 1) []
told_prints telling (line ∷ lines) rest =
    told_first_line telling (config_in line) (lines_print (told_line telling) [] 2 lines rest)

-- what is told of a whole input
abbrev pub told_text : Telling → List ℕ → Outcome
told_text telling input = told_prints telling (whole_lines input) (rest_line input)
