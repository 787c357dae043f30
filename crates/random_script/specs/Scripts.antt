-- A script of a kind as a text.
use Rattle.std.specs.Prelude.{ℕ, List, Option, Result, Ok, Err, All, length, ◌≡◌, ◌⊎◌}
use Rattle.std.specs.Io.KnownBytes.{Appends, Keeps}
use Rattle.line_text.specs.Known.{AppendsFront}
use Rattle.history.specs.declared.printing.PrintFault.{PrintFault}
use Rattle.nvme_model.specs.declared.config.ConfigNumbers.{ConfigNumbers}
use Rattle.random_script.specs.Kinds.{IsOfKind}
use Rattle.random_script.specs.declared.script_kind.ScriptKind.{ScriptKind}
use Rattle.script_lines.specs.Texts.{IsScriptLine, script_text}
use Rattle.script_lines.specs.declared.written.WrittenLine.{WrittenLine}

-- So many lines, each of this kind.
pub record AreOfKind (kind : ScriptKind) (count : ℕ) (lines : List WrittenLine) : Type 0 where
  pub count_is : length lines ≡ count
  pub of_kind : All (IsOfKind kind) lines

-- A script was written: the configuration line, and so many lines of this kind, each of which is a line of a script and
-- asks for what its words say; or nothing, or a beginning of such a text.
abbrev pub WritesScript : ScriptKind → ConfigNumbers → ℕ → Result (Unit {0}) PrintFault → Option (List ℕ)
    → Option (List ℕ) → Type 0
WritesScript kind c count (Ok done) old new =
    (lines : List WrittenLine) × AreOfKind kind count lines × All IsScriptLine lines
    × Appends old new (script_text c lines)
WritesScript kind c count (Err fault) old new =
    Keeps old new
    ⊎ ((lines : List WrittenLine) × AreOfKind kind count lines × AppendsFront old new (script_text c lines))
