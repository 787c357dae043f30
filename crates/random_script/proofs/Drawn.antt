-- Lines that were drawn, and then written.
use Rattle.std.proofs.Common.{ℕ, ◌+◌, List, [], ◌∷◌, ◌++◌, All, Option, Result, Ok, Err, inr, arith}
use Rattle.std.proofs.Common.{length-append}
use Rattle.std.specs.Prelude.{OnErr, OnOk}
use Rattle.std.specs.Io.KnownBytes.{Appends}
use Rattle.std.proofs.lemmas.List.Elements.{All-push}
use Rattle.line_text.specs.Known.{AppendsFront}
use Rattle.history.specs.declared.printing.PrintFault.{PrintFault}
use Rattle.nvme_model.specs.declared.config.ConfigNumbers.{ConfigNumbers}
use Rattle.random_script.specs.Kinds.{IsOfKind}
use Rattle.random_script.specs.Scripts.{AreOfKind, WritesScript}
use Rattle.random_script.specs.declared.script_kind.ScriptKind.{ScriptKind}
use Rattle.script_lines.specs.Texts.{IsScriptLine, script_text}
use Rattle.script_lines.specs.declared.written.WrittenLine.{WrittenLine}

-- no line
pub none_drawn : (kind : ScriptKind) → AreOfKind kind 0 []
none_drawn kind = record { count_is = omega arith; of_kind = λ j d low. absurd (omega arith) }

-- one line more
pub one_drawn : (kind : ScriptKind) (n : ℕ) (xs : List WrittenLine) (x : WrittenLine) → AreOfKind kind n xs
    → IsOfKind kind x → AreOfKind kind (n + 1) (xs ++ x ∷ [])
one_drawn kind n xs x are is =
    record {
      count_is = omega (arith, are.count_is, length-append xs (x ∷ []));
      of_kind = All-push (IsOfKind kind) xs x are.of_kind is;
    }

-- they were written, or a beginning was
pub written : (kind : ScriptKind) (c : ConfigNumbers) (n : ℕ) (lines : List WrittenLine)
    (r : Result (Unit {0}) PrintFault) (old new : Option (List ℕ)) → AreOfKind kind n lines
    → OnOk r (Appends old new (script_text c lines))
    → OnErr r (AppendsFront old new (script_text c lines)) → OnOk r (All IsScriptLine lines)
    → WritesScript kind c n r old new
written kind c n lines (Ok done) old new are whole front read = (lines, are, read, whole)
written kind c n lines (Err fault) old new are whole front read = inr (lines, are, front)
