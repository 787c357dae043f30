-- The blocks that were marked so far.
use Rattle.std.proofs.Common.{◌≡◌}
use Rattle.picture_shapes.specs.Blocks.{blocks_marked}
use Rattle.picture_shapes.proofs.blocks.Blocks.mark_unit.Given as goal

abbrev pub invariant-loop-i : goal.invariant-loop-i
invariant-loop-i l = l.self ≡ blocks_marked l.from l.place l.lane_entry l.ticket l.first l.i l.initial.self
