-- Where the lanes of blocks and of slots lie.
use Rattle.std.specs.Prelude.{Bool, List, [], flat_map, if◌then◌else◌, length, min, nat_lt, ℕ, ◌+◌, ◌==◌, ◌∷◌}
use Rattle.std.specs.List.{count_by, list_any}
use Rattle.picture_shapes.specs.Lanes.{LanesState, is_block_lane, is_slot_lane}
use Rattle.picture_shapes.specs.declared.block.BlockNow.{BlockNow}
use Rattle.picture_shapes.specs.declared.lanes.LanesShown.{LanesShown}
use Rattle.picture_svg.specs.Columns.{top_of}
use Rattle.picture_svg.specs.declared.columns.Columns.{Columns}

-- The columns of a picture, how many rows lie above its lanes of blocks, and the blocks that have a lane of their value
-- and a lane of a slot.
pub record LayoutState : Type 0 where
  pub columns : Columns
  pub above : ℕ
  pub blocks : List ℕ
  pub slots : List ℕ

-- a block, where it has a lane of its value
abbrev pub block_lane : LanesShown → BlockNow → List ℕ
block_lane shown b = if is_block_lane shown b then b.lba ∷ [] else []

-- a block, where it has a lane of a slot
abbrev pub slot_lane : LanesShown → BlockNow → List ℕ
slot_lane shown b = if is_slot_lane shown b then b.lba ∷ [] else []

-- The layout of lanes below so many rows.
abbrev pub layout_of : Columns → ℕ → LanesState → LayoutState
layout_of columns above s =
    record {
      columns = columns;
      above = above;
      blocks = flat_map (block_lane s.shown) s.blocks.blocks;
      slots = flat_map (slot_lane s.shown) s.blocks.blocks;
    }

-- how many of these are lower
abbrev pub lower : ℕ → List ℕ → ℕ
lower l blocks = count_by (λ k. nat_lt k l) blocks

-- whether a block is one of these
abbrev pub has_lane : ℕ → List ℕ → Bool
has_lane l blocks = list_any (λ k. k == l) blocks

-- the top of the lane of a block's value: the lanes are in the order of the blocks
abbrev pub block_top : LayoutState → ℕ → ℕ
block_top y l = top_of (y.above + lower l y.blocks)

-- the top of the lane of a slot, which lie below those
abbrev pub slot_top : LayoutState → ℕ → ℕ
slot_top y l = top_of (y.above + (length y.blocks + lower l y.slots))

-- How many rows there are down to the last lane.
abbrev pub rows_below : LayoutState → ℕ
rows_below y = min y.above 3000000 + (min (length y.blocks) 1000000 + min (length y.slots) 1000000)
