-- The lanes so far, and the blocks that are left.
use Rattle.std.proofs.Common.{◌≡◌, ◌++◌, drop}
use Rattle.std.specs.Prelude.{flat_map}
use Rattle.picture_svg.specs.Layout.{slot_lane}
use Rattle.picture_svg.proofs.layout.slot_lanes.Given as goal

abbrev pub invariant-loop-block : goal.invariant-loop-block
invariant-loop-block l =
    flat_map (slot_lane l.shown) l.blocks ≡ l.list.items ++ flat_map (slot_lane l.shown) (drop l.block-index l.blocks)
