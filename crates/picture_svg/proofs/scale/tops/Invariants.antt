-- The tops so far, and the rows that are left.
use Rattle.std.proofs.Common.{◌≡◌, ◌++◌, drop}
use Rattle.picture_svg.specs.Scale.{tops, tops_from}
use Rattle.picture_svg.proofs.scale.tops.Given as goal

abbrev pub invariant-loop-i : goal.invariant-loop-i
invariant-loop-i l = tops l.above l.rows ≡ l.list.items ++ tops_from l.above l.rows l.i (drop l.i l.rows)
