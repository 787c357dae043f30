-- Where columns, rows and lanes lie, in pixels.
use Rattle.std.specs.Prelude.{List, None, Option, Some, [], length, min, nat_lt, slice_get, take, ℕ}
use Rattle.std.specs.Prelude.{◌+◌, ◌-◌, ◌==◌, ◌∷◌}
use Rattle.std.specs.List.{count_by}
use Rattle.picture_shapes.specs.Lanes.{LanesState}
use Rattle.picture_svg.specs.Layout.{LayoutState, layout_of, rows_below}
use Rattle.picture_shapes.specs.Picture.{PictureState}
use Rattle.picture_shapes.specs.declared.rows.LaneRow.{LaneRow}
use Rattle.picture_svg.specs.Columns.{top_of}
use Rattle.picture_svg.specs.declared.columns.Columns.{Columns}

-- The place of the first column, how many columns there are, the tops of the rows of the submission queues, of the
-- completion queues and of the tickets, by row, where the lanes of blocks and of slots lie, and the end of all rows.
pub record ScaleState : Type 0 where
  pub from : ℕ
  pub columns : ℕ
  pub rows : List ℕ
  pub waits : List ℕ
  pub tickets : List ℕ
  pub lanes : LayoutState
  pub bottom : ℕ

-- how many rows stand above one of a lane: those of lanes with lower numbers, and those of its lane before it
abbrev pub rank : List LaneRow → ℕ → ℕ → ℕ
rank rows i lane = count_by (λ row. nat_lt row.lane lane) rows + count_by (λ row. row.lane == lane) (take i rows)

-- the tops of the rows from the i-th on, where so many rows of others stand above
abbrev pub tops_from : ℕ → List LaneRow → ℕ → List LaneRow → List ℕ
tops_from above rows i [] = []
tops_from above rows i (row ∷ more) = top_of (above + rank rows i row.lane) ∷ tops_from above rows (i + 1) more

-- the tops of rows, lane by lane
abbrev pub tops : ℕ → List LaneRow → List ℕ
tops above rows = tops_from above rows 0 rows

-- the columns from one place to another
abbrev pub columns_to : (from last : ℕ) → Columns
columns_to from last = record { from = from; count = min (last - (from - 1)) 10000 }

-- the scale of rows and of lanes, and of columns from one place to another
abbrev pub scale_by : (from last : ℕ) → (rows waits tickets : List LaneRow) → LanesState → ScaleState
scale_by from last rows waits tickets lanes =
    let above = min (length rows) 1000000 in
    let more = above + min (length waits) 1000000 in
    let layout = layout_of (columns_to from last) (more + min (length tickets) 1000000) lanes in
    record {
      from = from;
      columns = min (last - (from - 1)) 10000;
      rows = tops 0 rows;
      waits = tops above waits;
      tickets = tops more tickets;
      lanes = layout;
      bottom = top_of (rows_below layout);
    }

-- The scale of a picture: its lanes of submission queues, of completion queues, of tickets, of blocks and
-- of slots, from above.
abbrev pub scale_of : PictureState → ScaleState
scale_of p = scale_by p.from p.last p.bars.rows p.bars.waits p.tickets.rows p.lanes

-- a top that was computed, or that of the first row
abbrev pub top_or_first : Option ℕ → ℕ
top_or_first None = 66
top_or_first (Some top) = min top 46000066

-- the top of a row
abbrev pub top_at : List ℕ → ℕ → ℕ
top_at tops row = top_or_first (slice_get tops row)

-- the end of all rows
abbrev pub bottom_of : ScaleState → ℕ
bottom_of s = min s.bottom 46000066
