-- The text of the lanes of blocks and of slots.
use Rattle.std.specs.Prelude.{List, [], flat_map, if◌then◌else◌, ℕ, ◌∷◌}
use Rattle.std.specs.List.{concat}
use Rattle.picture_shapes.specs.Lanes.{LanesState, shows_lanes}
use Rattle.picture_svg.specs.Layout.{LayoutState}
use Rattle.picture_svg.specs.SlotHolders.{block_name, slot_name}
use Rattle.picture_svg.specs.Spans.{belief_svg, now_svg, span_svg}
use Rattle.picture_svg.specs.declared.lane_style.TheConstants.{LANE_STYLE}

-- the names of all lanes
abbrev pub lane_names_svg : LayoutState → List ℕ
lane_names_svg y = concat (flat_map (block_name y) y.blocks ∷ flat_map (slot_name y) y.slots ∷ [])

-- what lay in blocks, and who held slots
abbrev pub spans_svg : LayoutState → LanesState → List ℕ
spans_svg y s = flat_map (span_svg y) s.blocks.spans

-- what lies in blocks at the end, and who holds slots
abbrev pub blocks_svg : LayoutState → LanesState → List ℕ
blocks_svg y s = flat_map (now_svg y) s.blocks.blocks

-- who believed that it holds a slot
abbrev pub ended_beliefs_svg : LayoutState → LanesState → List ℕ
ended_beliefs_svg y s = flat_map (belief_svg y) s.beliefs.done

-- who believes it at the end
abbrev pub lasting_svg : LayoutState → LanesState → List ℕ
lasting_svg y s = flat_map (belief_svg y) s.beliefs.lasting

-- The text of the lanes: how they look, their names, what lay in blocks and lies there at the end, and who believed and
-- believes that it holds a slot; each once.
abbrev pub lanes_text : LayoutState → LanesState → List ℕ
lanes_text y s =
    concat (LANE_STYLE.now ∷ lane_names_svg y ∷ spans_svg y s ∷ blocks_svg y s ∷ ended_beliefs_svg y s
    ∷ lasting_svg y s ∷ [])

-- The same, where lanes are shown.
abbrev pub lanes_svg : LayoutState → LanesState → List ℕ
lanes_svg y s = if shows_lanes s.shown then lanes_text y s else []
