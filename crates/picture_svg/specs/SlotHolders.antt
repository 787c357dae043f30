-- The names of the lanes of blocks and of slots.
use Rattle.std.specs.Prelude.{List, [], codes, decimal, ℕ, ◌+◌, ◌∷◌}
use Rattle.std.specs.List.{concat}
use Rattle.picture_svg.specs.Columns.{edge_of}
use Rattle.picture_svg.specs.Layout.{LayoutState, block_top, slot_top}

-- the line above a lane
abbrev pub lane_line : LayoutState → ℕ → List ℕ
lane_line y top =
    concat (codes "<path class='g' d='M0 " ∷ decimal top ∷ codes "H" ∷ decimal (edge_of y.columns.count)
    ∷ codes "'/>" ∷ [])

-- what a lane is of
abbrev pub upper_words : ℕ → List ℕ → ℕ → List ℕ
upper_words top name l =
    concat (codes "<text class='a' x='6' y='" ∷ decimal (top + 19) ∷ codes "'>" ∷ name ∷ decimal l
    ∷ codes "</text>" ∷ [])

-- what stands in the lower half of a lane
abbrev pub lower_words : ℕ → List ℕ → List ℕ
lower_words top second =
    concat (codes "<text x='6' y='" ∷ decimal (top + 35) ∷ codes "'>" ∷ second ∷ codes "</text>" ∷ (10 ∷ []) ∷ [])

-- the line above a lane, and its words
abbrev pub lane_name : LayoutState → ℕ → List ℕ → ℕ → List ℕ → List ℕ
lane_name y top name l second = concat (lane_line y top ∷ upper_words top name l ∷ lower_words top second ∷ [])

-- The name of the lane of a block's value.
abbrev pub block_name : LayoutState → ℕ → List ℕ
block_name y l = lane_name y (block_top y l) (codes "block ") l (codes "medium")

-- The name of the lane of a slot.
abbrev pub slot_name : LayoutState → ℕ → List ℕ
slot_name y l = lane_name y (slot_top y l) (codes "slot ") l (codes "believed")
