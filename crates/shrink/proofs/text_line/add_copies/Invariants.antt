-- The lines so far are there.
use Rattle.std.proofs.Common.{◌≡◌, ◌++◌, take}
use Rattle.shrink.proofs.text_line.add_copies.Given as goal

abbrev pub invariant-loop-k : goal.invariant-loop-k
invariant-loop-k l = l.out.items ≡ l.fn.out.items ++ take l.k l.lines
