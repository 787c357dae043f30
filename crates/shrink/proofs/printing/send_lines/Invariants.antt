-- The lines so far are written.
use Rattle.shrink.proofs.LinesOut.{Printed}
use Rattle.shrink.proofs.printing.send_lines.Given as goal

abbrev pub invariant-loop-k : goal.invariant-loop-k
invariant-loop-k g l = Printed l.lines l.k (g.W.Write.contents l.fn.writer) (g.W.Write.contents l.writer)
