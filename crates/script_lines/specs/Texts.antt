-- The text of a script.
use Rattle.std.specs.Prelude.{List, Some, map, ℕ, ◌∷◌, ◌≡◌}
use Rattle.line_text.specs.Lines.{with_feeds}
use Rattle.nvme_model.specs.declared.config.ConfigNumbers.{ConfigNumbers}
use Rattle.history.specs.ConfigLine.{config_line}
use Rattle.script_lines.specs.ScriptLines.{script_line_in}
use Rattle.script_lines.specs.Asked.{asked}
use Rattle.script_lines.specs.Written.{line_text}
use Rattle.script_lines.specs.declared.written.WrittenLine.{WrittenLine}

-- The configuration line, and then each of these lines, each with its line feed.
abbrev pub script_text : ConfigNumbers → List WrittenLine → List ℕ
script_text c lines = with_feeds (config_line c ∷ map line_text lines)

-- The text of the line is one of a script, and asks for what its words say.
abbrev pub IsScriptLine : WrittenLine → Type 0
IsScriptLine line = script_line_in (line_text line) ≡ Some (asked line)
