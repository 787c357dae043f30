-- The lines so far are those that were read.
use Rattle.std.specs.Prelude.{length, suc, ◌≡◌}
use Rattle.shrink.proofs.LinesIn.{Took}
use Rattle.shrink.proofs.reading.read_lines.Given as goal

abbrev pub invariant-loop-number : goal.invariant-loop-number
invariant-loop-number g l =
    Took l.all.items (g.T.Read.remaining l.fn.reader) (g.T.Read.remaining l.reader) l.lines
    × (l.number ≡ suc (length l.all.items))
