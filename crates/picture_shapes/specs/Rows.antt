-- Rows of lanes, which are taken and given back.
use Rattle.std.specs.Prelude.{Bool, List, None, Option, Some, [], false, length, not, slice_set, true, ℕ, ◌&&◌, ◌++◌}
use Rattle.std.specs.Prelude.{◌==◌, ◌∷◌}
use Rattle.std.specs.List.{position}
use Rattle.picture_shapes.specs.declared.rows.LaneRow.{LaneRow}

-- whether the row is one of the lane in which nothing is open
abbrev pub is_row_free : ℕ → LaneRow → Bool
is_row_free lane row = (row.lane == lane) && not row.used

-- a row of the lane in which something is open, or nothing
abbrev pub row_in : ℕ → Bool → LaneRow
row_in lane used = record { lane = lane; used = used }

-- the index of the row, or of a new one behind all others
abbrev pub index_or_new : List LaneRow → Option ℕ → ℕ
index_or_new rows None = length rows
index_or_new rows (Some i) = i

-- the rows, with that one taken
abbrev pub with_taken : ℕ → List LaneRow → Option ℕ → List LaneRow
with_taken lane rows None = rows ++ row_in lane true ∷ []
with_taken lane rows (Some i) = slice_set rows i (row_in lane true)

-- Which row is taken of a lane, by its index among all rows: the first that is free, or a new one.
abbrev pub row_taken : ℕ → List LaneRow → ℕ
row_taken lane rows = index_or_new rows (position (is_row_free lane) rows)

-- The rows with that one taken.
abbrev pub rows_taken : ℕ → List LaneRow → List LaneRow
rows_taken lane rows = with_taken lane rows (position (is_row_free lane) rows)

-- The rows with this one, of this lane, given back.
abbrev pub rows_freed : (lane row : ℕ) → List LaneRow → List LaneRow
rows_freed lane row rows = slice_set rows row (row_in lane false)
