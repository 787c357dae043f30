use Rattle.history.specs.Lines.{HasLine, entry_line}
use Rattle.history.proofs.LinesOut.{Printed}
use Rattle.history.proofs.printing.print_history.Given as goal

abbrev pub invariant-loop-k : goal.invariant-loop-k
invariant-loop-k g l =
    Printed entry_line HasLine l.config l.entries l.k (g.W.Write.contents l.fn.writer) (g.W.Write.contents l.writer)
