-- The whole text of a picture.
use Rattle.std.specs.Prelude.{List, None, Option, Some, [], codes, decimal, flat_map, length, max, min, ℕ, ◌*◌}
use Rattle.std.specs.Prelude.{◌+◌, ◌∷◌}
use Rattle.std.specs.List.{concat}
use Rattle.picture_shapes.specs.Picture.{PictureState}
use Rattle.picture_shapes.specs.declared.picture.BadColumn.{BadColumn}
use Rattle.picture_svg.specs.ColumnHeads.{bad_svg, head_svg}
use Rattle.picture_svg.specs.Entries.{bar_svg, cell_svg, open_svg}
use Rattle.picture_svg.specs.LaneRows as lane_text
use Rattle.picture_svg.specs.LaneNames.{queue_names_svg, tickets_lane_svg}
use Rattle.picture_svg.specs.Scale.{ScaleState, bottom_of, scale_of}
use Rattle.picture_svg.specs.Columns.{edge_of}
use Rattle.picture_svg.specs.Seen.{seen_svg}
use Rattle.picture_svg.specs.Tickets.{flying_svg, ticket_box_svg, unit_svg}
use Rattle.picture_svg.specs.declared.style.TheConstants.{BARS, MARKS, STYLE}

-- how many bytes the words of the first bad step have
abbrev pub bad_length : Option BadColumn → ℕ
bad_length None = 0
bad_length (Some b) = length b.words

-- how wide the picture is: its columns, and at least the words below them
abbrev pub width_of : ScaleState → Option BadColumn → ℕ
width_of s bad = max (max (edge_of s.columns + 8) 800) (16 + 8 * min (bad_length bad) 100000)

-- what is seen of the picture, which is all
abbrev pub view_svg : ScaleState → PictureState → List ℕ
view_svg s p =
    concat (codes "<svg xmlns='http://www.w3.org/2000/svg' viewBox='0 0 " ∷ decimal (width_of s p.bad) ∷ codes " "
    ∷ decimal (bottom_of s + 66) ∷ codes "'" ∷ [])

-- how large the picture is
abbrev pub size_svg : ScaleState → PictureState → List ℕ
size_svg s p =
    concat (codes " width='" ∷ decimal (width_of s p.bad) ∷ codes "' height='"
    ∷ decimal (bottom_of s + 66) ∷ codes "'>" ∷ (10 ∷ []) ∷ [])

-- what lies behind it
abbrev pub ground_svg : ScaleState → PictureState → List ℕ
ground_svg s p =
    concat (codes "<rect class='z' width='" ∷ decimal (width_of s p.bad) ∷ codes "' height='"
    ∷ decimal (bottom_of s + 66) ∷ codes "'/>" ∷ (10 ∷ []) ∷ [])

-- The first lines: how large the picture is, and how it looks.
abbrev pub opening_svg : ScaleState → PictureState → List ℕ
opening_svg s p = concat (view_svg s p ∷ size_svg s p ∷ STYLE.now ∷ ground_svg s p ∷ [])

-- words below all rows
abbrev pub note_svg : ℕ → List ℕ → List ℕ
note_svg base words =
    concat (codes "<text x='8' y='" ∷ decimal base ∷ codes "'>" ∷ words ∷ codes "</text>" ∷ (10 ∷ []) ∷ [])

-- The last lines: what bars and marks are.
abbrev pub closing_svg : ScaleState → List ℕ
closing_svg s =
    concat (note_svg (bottom_of s + 40) BARS.now ∷ note_svg (bottom_of s + 57) MARKS.now ∷ codes "</svg>"
    ∷ (10 ∷ []) ∷ [])

-- the names of all lanes
abbrev pub names_svg : ScaleState → PictureState → List ℕ
names_svg s p =
    concat (queue_names_svg s s.rows (codes "submission") p.bars.rows
    ∷ queue_names_svg s s.waits (codes "completion") p.bars.waits ∷ tickets_lane_svg s p.tickets.rows ∷ [])

-- the bars of the entries that were reaped
abbrev pub done_svg : ScaleState → PictureState → List ℕ
done_svg s p = flat_map (bar_svg s) p.bars.done

-- those of the entries that weren't
abbrev pub pending_svg : ScaleState → PictureState → List ℕ
pending_svg s p = flat_map (open_svg s) p.bars.pending

-- the cells
abbrev pub cells_svg : ScaleState → PictureState → List ℕ
cells_svg s p = flat_map (cell_svg s) p.bars.cells

-- the tickets that owe nothing more
abbrev pub tickets_svg : ScaleState → PictureState → List ℕ
tickets_svg s p = flat_map (ticket_box_svg s) p.tickets.done

-- those in flight
abbrev pub in_flight_svg : ScaleState → PictureState → List ℕ
in_flight_svg s p = flat_map (flying_svg s) p.tickets.flying

-- the units
abbrev pub units_svg : ScaleState → PictureState → List ℕ
units_svg s p = flat_map (unit_svg s) p.tickets.units

-- the heads of the columns, with their marks
abbrev pub heads_svg : ScaleState → PictureState → List ℕ
heads_svg s p = flat_map (head_svg s) p.heads

-- The bars of entries and the boxes of tickets and units.
abbrev pub shapes_svg : ScaleState → PictureState → List ℕ
shapes_svg s p = concat (done_svg s p ∷ pending_svg s p ∷ tickets_svg s p ∷ in_flight_svg s p ∷ units_svg s p ∷ [])

-- the lanes of blocks and of slots
abbrev pub beside_svg : ScaleState → PictureState → List ℕ
beside_svg s p = lane_text.lanes_svg s.lanes p.lanes

-- The text of a picture on a scale: the columns that hosts saw, where it is of a witness, the lanes with their bars and
-- boxes, those of blocks and of slots, the heads with their marks, the cells, and the rule through the first bad step.
abbrev pub page_svg : ScaleState → PictureState → List ℕ
page_svg s p =
    concat (opening_svg s p ∷ seen_svg s p.heads p.subject ∷ names_svg s p ∷ shapes_svg s p
    ∷ beside_svg s p ∷ heads_svg s p ∷ cells_svg s p ∷ bad_svg s p.bad ∷ closing_svg s ∷ [])

-- The SVG text of a picture: each of its shapes once.
abbrev pub picture_svg : PictureState → List ℕ
picture_svg p = page_svg (scale_of p) p
