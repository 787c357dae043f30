-- What lies in blocks, and who holds slots and believes that it does.
use Rattle.std.specs.Prelude.{List, None, Option, Some, [], codes, decimal, if◌then◌else◌, ℕ, ◌+◌, ◌∷◌}
use Rattle.std.specs.List.{concat}
use Rattle.nvme_model.specs.Slots.{Name}
use Rattle.picture_shapes.specs.Blocks.{differs, medium_span, seen_span}
use Rattle.picture_shapes.specs.declared.belief.Belief.{Belief}
use Rattle.picture_shapes.specs.declared.block.BlockNow.{BlockNow}
use Rattle.picture_shapes.specs.declared.block.SpanKind.{SpanKind}
use Rattle.picture_shapes.specs.declared.block.Span.{Span}
use Rattle.picture_shapes.specs.declared.content.Content.{Content}
use Rattle.picture_svg.specs.Boxes.{rect_svg}
use Rattle.picture_svg.specs.Columns.{change_of, until_of}
use Rattle.picture_svg.specs.declared.boxes.Frame.{Frame}
use Rattle.picture_svg.specs.LaneBoxes.{host_hue, hued_svg, name_label, name_told, two_digits, value_hue, value_label}
use Rattle.picture_svg.specs.LaneBoxes.{writer_told}
use Rattle.picture_svg.specs.Layout.{LayoutState, block_top, has_lane, slot_top}

-- the frame of a box from one change to another
abbrev pub frame_of : LayoutState → (begun : ℕ) → Option ℕ → (top : ℕ) → Frame
frame_of y begun ended top =
    record {
      left = change_of y.columns.from begun;
      right = until_of y.columns.from y.columns.count ended;
      top = top;
      height = 18;
    }

-- the frame of the box of a holder, in the lane of its slot
abbrev pub held_frame : LayoutState → Span → Frame
held_frame y s = frame_of y s.begun s.ended (slot_top y s.lba + 3)

-- how far below the top of its lane a value stands: what is seen above, and what lies there below
abbrev pub span_kind_below : SpanKind → ℕ
span_kind_below SpanKind.Seen = 3
span_kind_below SpanKind.Medium = 23

-- which value of a block it is
abbrev pub span_kind_told : SpanKind → List ℕ
span_kind_told SpanKind.Seen = codes ": "
span_kind_told SpanKind.Medium = codes ", medium: "

-- the class of a value
abbrev pub span_kind_class : SpanKind → List ℕ
span_kind_class SpanKind.Seen = codes "v"
span_kind_class SpanKind.Medium = codes "v l"

-- the class of zeros
abbrev pub zeros_class : SpanKind → List ℕ
zeros_class SpanKind.Seen = codes "u"
zeros_class SpanKind.Medium = codes "u l"

-- the box of a value: without a hue where it is zeros
abbrev pub value_rect : SpanKind → Content → Frame → List ℕ
value_rect kind x f =
    if x.zeros then rect_svg (zeros_class kind) f else hued_svg (span_kind_class kind) (value_hue x.digits) f

-- the beginning of the words of a value under the pointer
abbrev pub value_block : Span → List ℕ
value_block s = concat (codes "<g><title>block " ∷ decimal s.lba ∷ span_kind_told s.kind ∷ [])

-- the words of a value under the pointer
abbrev pub value_title : Span → List ℕ
value_title s =
    concat (value_block s ∷ two_digits s.content.digits ∷ writer_told s.content.ticket ∷ codes "</title>" ∷ [])

-- The box of a value in the lane of its block, from the step that made it so to the one that ended it.
abbrev pub value_svg : LayoutState → Span → List ℕ
value_svg y s =
    let f = frame_of y s.begun s.ended (block_top y s.lba + span_kind_below s.kind) in
    concat (value_title s ∷ value_rect s.kind s.content f ∷ value_label f s.content ∷ codes "</g>" ∷ (10 ∷ []) ∷ [])

-- the beginning of the words of a slot under the pointer
abbrev pub slot_told : ℕ → List ℕ → List ℕ
slot_told l said = concat (codes "<g><title>slot " ∷ decimal l ∷ said ∷ [])

-- what is said of a name in a slot, under the pointer
abbrev pub name_title : ℕ → List ℕ → Name → List ℕ
name_title l said n = concat (slot_told l said ∷ name_told n ∷ codes "</title>" ∷ [])

-- a box of a name, in the hue of its host
abbrev pub name_box : Frame → Name → List ℕ
name_box f n =
    concat (hued_svg (codes "v") (host_hue n.host) f ∷ name_label f n ∷ codes "</g>" ∷ (10 ∷ []) ∷ [])

-- the box of a holder in the lane of its slot
abbrev pub holder_svg : LayoutState → Span → Name → List ℕ
holder_svg y s n =
    concat (name_title s.lba (codes ": held by ") n
    ∷ name_box (held_frame y s) n ∷ [])

-- a box of bytes that are no name
abbrev pub data_box : Frame → Content → List ℕ
data_box f x = concat (rect_svg (codes "f") f ∷ value_label f x ∷ codes "</g>" ∷ (10 ∷ []) ∷ [])

-- the box of bytes in a slot that are neither zeros nor a name
abbrev pub other_box : LayoutState → Span → List ℕ
other_box y s =
    concat (slot_told s.lba (codes ": no name</title>")
    ∷ data_box (held_frame y s) s.content ∷ [])

-- the same; of zeros nothing
abbrev pub other_svg : LayoutState → Span → List ℕ
other_svg y s = if s.content.zeros then [] else other_box y s

-- that, or the box of the name that they are
abbrev pub named_svg : LayoutState → Span → Option Name → List ℕ
named_svg y s None = other_svg y s
named_svg y s (Some n) = holder_svg y s n

-- Who holds a slot, by what observers see of its block; of a free one there is nothing.
abbrev pub slot_holder_svg : LayoutState → Span → SpanKind → List ℕ
slot_holder_svg y s SpanKind.Seen = named_svg y s s.content.name
slot_holder_svg y s SpanKind.Medium = []

-- a value in the lane of its block, where that has one
abbrev pub in_block_lane : LayoutState → Span → List ℕ
in_block_lane y s = if has_lane s.lba y.blocks then value_svg y s else []

-- a holder in the lane of its slot, where that has one
abbrev pub in_slot_lane : LayoutState → Span → List ℕ
in_slot_lane y s = if has_lane s.lba y.slots then slot_holder_svg y s s.kind else []

-- A value that a block had, in its lanes.
abbrev pub span_svg : LayoutState → Span → List ℕ
span_svg y s = concat (in_block_lane y s ∷ in_slot_lane y s ∷ [])

-- what lies in a block, where that is another thing than what observers see
abbrev pub other_now : LayoutState → BlockNow → List ℕ
other_now y b = if differs b then span_svg y (medium_span None b) else []

-- The value that a block has at the end.
abbrev pub now_svg : LayoutState → BlockNow → List ℕ
now_svg y b = concat (span_svg y (seen_span None b) ∷ other_now y b ∷ [])

-- the box of a belief in the lane of its slot
abbrev pub believed_svg : LayoutState → Belief → List ℕ
believed_svg y b =
    concat (name_title b.slot.lba (codes ": believed to be held by ") b.slot.name
    ∷ name_box (frame_of y b.begun b.ended (slot_top y b.slot.lba + 23)) b.slot.name ∷ [])

-- A belief, from the Reap of the claim's success to the Publish of its release, where its slot has a lane.
abbrev pub belief_svg : LayoutState → Belief → List ℕ
belief_svg y b = if has_lane b.slot.lba y.slots then believed_svg y b else []
