use Rattle.history.proofs.LinesOut.{Printed}
use Rattle.script_lines.specs.Texts.{IsScriptLine}
use Rattle.script_lines.specs.Written.{line_text}
use Rattle.script_lines.proofs.printing.print_script.Given as goal

abbrev pub invariant-loop-k : goal.invariant-loop-k
invariant-loop-k g l =
    Printed line_text IsScriptLine l.config l.lines l.k (g.W.Write.contents l.fn.writer) (g.W.Write.contents l.writer)
