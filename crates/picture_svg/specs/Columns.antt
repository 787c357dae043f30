-- Where columns of steps and rows lie, in pixels: a column has 88.
use Rattle.std.specs.Prelude.{None, Option, Some, if◌then◌else◌, min, nat_lt, ℕ, ◌*◌, ◌+◌, ◌-◌, ◌/◌}

-- the left edge of the column of a step; of one before the first it is the picture's
abbrev pub column_left : (from place : ℕ) → ℕ
column_left from place = 84 + 88 * min (place - from) 10000

-- the left end of what begins at this step, or at the picture's edge where that was before
abbrev pub left_end_of : (from place : ℕ) → ℕ
left_end_of from place = if nat_lt place from then 84 else column_left from place + 4

-- the right edge of the last column
abbrev pub edge_of : ℕ → ℕ
edge_of columns = 84 + 88 * min columns 10000

-- the right end of what ends at this step, or at the picture's edge where it is still open
abbrev pub right_end_of : (from columns : ℕ) → Option ℕ → ℕ
right_end_of from columns None = edge_of columns
right_end_of from columns (Some place) = column_left from place + 84

-- Where something changes at this step: in the middle of its column, or at the picture's left edge where that was
-- before.
abbrev pub change_of : (from place : ℕ) → ℕ
change_of from place = if nat_lt place from then 84 else column_left from place + 44

-- where something ends that changes at this step, or at the picture's edge where it is still open
abbrev pub until_of : (from columns : ℕ) → Option ℕ → ℕ
until_of from columns None = edge_of columns
until_of from columns (Some place) = change_of from place

-- how many characters have room in so many pixels
abbrev pub room : ℕ → ℕ
room pixels = (pixels - 12) / 7

-- the top of the row with this number from above: a row has 46
abbrev pub top_of : ℕ → ℕ
top_of rank = 66 + 46 * min rank 1000000
