-- The tickets in flight and their units.
use Rattle.std.specs.Prelude.{List, None, Option, Some, [], codes, decimal, ℕ, ◌++◌, ◌+◌, ◌∷◌}
use Rattle.std.specs.List.{concat}
use Rattle.history_words.specs.Texts.{blocks_told}
use Rattle.picture_shapes.specs.declared.ticket_boxes.OpenTicket.{OpenTicket}
use Rattle.picture_shapes.specs.declared.ticket_boxes.TicketBox.{TicketBox}
use Rattle.picture_shapes.specs.declared.ticket_boxes.UnitBox.{UnitBox}
use Rattle.picture_svg.specs.Boxes.{rect_svg}
use Rattle.picture_svg.specs.Entries.{frame}
use Rattle.picture_svg.specs.Scale.{ScaleState, top_at}
use Rattle.picture_svg.specs.Columns.{left_end_of, right_end_of}

-- The box of a ticket, from its Fetch to its last Post.
abbrev pub ticket_box_svg : ScaleState → TicketBox → List ℕ
ticket_box_svg s t =
    let left = left_end_of s.from t.fetched in
    let top = top_at s.tickets t.row in
    rect_svg (codes "b") (frame left (right_end_of s.from s.columns t.posted) (top + 3) 40)
    ++ concat (codes "<text x='" ∷ decimal (left + 8) ∷ codes "' y='" ∷ decimal (top + 17) ∷ codes "'>ticket "
    ∷ decimal t.ticket ∷ codes " of queue " ∷ decimal t.queue ∷ codes "</text>" ∷ (10 ∷ []) ∷ [])

-- the number of a unit, before its blocks
abbrev pub number_svg : (left base unit : ℕ) → List ℕ
number_svg left base unit =
    concat (codes "<text x='" ∷ decimal left ∷ codes "' y='" ∷ decimal base ∷ codes "'>unit " ∷ decimal unit
    ∷ codes ": " ∷ [])

-- the blocks of a unit
abbrev pub unit_range_told : UnitBox → List ℕ
unit_range_told u = blocks_told u.slba u.blocks

-- The box of a unit in that of its ticket, from its Grant to its last Block.
abbrev pub unit_svg : ScaleState → UnitBox → List ℕ
unit_svg s u =
    let left = left_end_of s.from u.granted in
    let top = top_at s.tickets u.row in
    concat (rect_svg (codes "t") (frame left (right_end_of s.from s.columns (Some u.last)) (top + 23) 18)
    ∷ number_svg (left + 8) (top + 36) u.unit ∷ unit_range_told u ∷ codes "</text>" ∷ (10 ∷ []) ∷ [])

-- the unit of a ticket, where it has one
abbrev pub unit_here_svg : ScaleState → Option UnitBox → List ℕ
unit_here_svg s None = []
unit_here_svg s (Some u) = unit_svg s u

-- a ticket in flight with its unit
abbrev pub flying_svg : ScaleState → OpenTicket → List ℕ
flying_svg s x = ticket_box_svg s x.ticket ++ unit_here_svg s x.unit
