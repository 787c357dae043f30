-- A part of the lines so far.
use Rattle.std.proofs.Common.{take}
use Rattle.shrink.specs.Smaller.{HasSmallerPart}
use Rattle.shrink.proofs.edits.edited.Given as goal

abbrev pub invariant-loop-k : goal.invariant-loop-k
invariant-loop-k l = HasSmallerPart (take l.k l.lines) l.out.items
