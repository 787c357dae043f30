-- The names of the lanes.
use Rattle.std.specs.Prelude.{List, [], codes, decimal, if◌then◌else◌, length, take, ℕ, ◌++◌, ◌+◌, ◌==◌, ◌∷◌}
use Rattle.std.specs.List.{concat, list_any}
use Rattle.picture_shapes.specs.declared.rows.LaneRow.{LaneRow}
use Rattle.picture_svg.specs.Scale.{ScaleState, top_at}
use Rattle.picture_svg.specs.Columns.{edge_of}

-- the line above a lane, and the first of its words
abbrev pub line_svg : ScaleState → ℕ → List ℕ → List ℕ
line_svg s top name =
    concat (codes "<path class='g' d='M0 " ∷ decimal top ∷ codes "H" ∷ decimal (edge_of s.columns)
    ∷ codes "'/><text class='a' x='6' y='" ∷ decimal (top + 19) ∷ codes "'>" ∷ name
    ∷ codes "</text><text class='a' x='6' y='" ∷ decimal (top + 35) ∷ codes "'>" ∷ [])

-- the name of the lane of a queue
abbrev pub lane_svg : ScaleState → ℕ → List ℕ → ℕ → List ℕ
lane_svg s top name lane =
    line_svg s top name ++ concat (codes "queue " ∷ decimal lane ∷ codes "</text>" ∷ (10 ∷ []) ∷ [])

-- the name of the lane of a row, where none of the rows before it is of that lane
abbrev pub row_svg : ScaleState → ℕ → List ℕ → List LaneRow → LaneRow → List ℕ
row_svg s top name before row =
    if list_any (λ r. r.lane == row.lane) before then [] else lane_svg s top name row.lane

-- the names of the lanes of the rows from the i-th on
abbrev pub lanes_from : ScaleState → List ℕ → List ℕ → List LaneRow → ℕ → List LaneRow → List ℕ
lanes_from s tops name rows i [] = []
lanes_from s tops name rows i (row ∷ more) =
    row_svg s (top_at tops i) name (take i rows) row ++ lanes_from s tops name rows (i + 1) more

-- The names of the lanes of queues.
abbrev pub queue_names_svg : ScaleState → List ℕ → List ℕ → List LaneRow → List ℕ
queue_names_svg s tops name rows = lanes_from s tops name rows 0 rows

-- the line above the lane of the tickets
abbrev pub tickets_line_svg : ScaleState → List ℕ
tickets_line_svg s = line_svg s (top_at s.tickets 0) (codes "tickets")

-- the name of the lane of the tickets
abbrev pub in_flight_svg : ScaleState → List ℕ
in_flight_svg s = concat (tickets_line_svg s ∷ codes "in flight</text>" ∷ (10 ∷ []) ∷ [])

-- The name of the lane of the tickets, where there was one.
abbrev pub tickets_lane_svg : ScaleState → List LaneRow → List ℕ
tickets_lane_svg s rows = if length rows == 0 then [] else in_flight_svg s
