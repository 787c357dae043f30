-- Which texts are lines.
use Rattle.std.specs.Prelude.{Bool, List, codes, is_some, ℕ, ◌||◌}
use Rattle.std.specs.Str.{bytes_eq}
use Rattle.history.specs.ConfigLine.{config_in}
use Rattle.history.specs.Lines.{entry_in}
use Rattle.script_lines.specs.ScriptLines.{script_line_in}
use Rattle.trace.specs.OptionLines.{option_in}
use Rattle.trace.specs.SeenLines.{seen_in}
use Rattle.history_words.specs.BesideLines.{beside_painted}
use Rattle.history_words.specs.declared.paint.Paint.{Paint}
use Rattle.refutation.specs.Refutations.{of_lines}
use Rattle.refutation.specs.Texts.{and_line, count_of, words_of}
use Rattle.file_commands.specs.declared.grammar.Grammar.{Grammar}

-- the text is a line of this kind of file: its configuration line, or one behind it of a script, a history, a trace or
-- of what is told; or a line of a refutation, its first, its second or one behind, whatever stands before it
abbrev pub is_line : Grammar → List ℕ → Bool
is_line Grammar.Configuration line = is_some (config_in line)
is_line Grammar.Script line = is_some (script_line_in line)
is_line Grammar.History line = is_some (entry_in line)
is_line Grammar.Trace line = is_some (option_in line) || is_some (seen_in line)
is_line Grammar.Told line = is_some (entry_in line) || is_some (beside_painted Paint.Plain line)
is_line Grammar.RefutationHead line = bytes_eq line (codes "refutation")
is_line Grammar.RefutedLines line = is_some (count_of (words_of line))
is_line Grammar.Slice line = is_some (and_line (of_lines 0) line)
