-- The bars of entries, the cells in them, and the completions that wait.
use Rattle.std.specs.Prelude.{Bool, List, None, Option, Some, [], codes, decimal, if◌then◌else◌, ℕ, ◌&&◌}
use Rattle.std.specs.Prelude.{◌++◌, ◌+◌, ◌-◌, ◌==◌, ◌∷◌}
use Rattle.std.specs.List.{concat}
use Rattle.nvme_model.specs.Codes.{StatusCode}
use Rattle.nvme_model.specs.declared.operation.Found.{Found}
use Rattle.history.specs.Marks.{found_word}
use Rattle.history_words.specs.Names.{status_name}
use Rattle.picture_shapes.specs.declared.bar.Bar.{Bar}
use Rattle.picture_shapes.specs.declared.bar.Cell.{Cell}
use Rattle.picture_shapes.specs.declared.bar.EntryFetch.{EntryFetch}
use Rattle.picture_shapes.specs.declared.bar.OpenBar.{OpenBar}
use Rattle.picture_shapes.specs.declared.bar.Posting.{Posting}
use Rattle.picture_svg.specs.Boxes.{rect_svg, words_svg}
use Rattle.picture_svg.specs.Pieces.{escaped}
use Rattle.picture_svg.specs.Scale.{ScaleState, top_at}
use Rattle.picture_svg.specs.Columns.{column_left, left_end_of, right_end_of, room}
use Rattle.picture_svg.specs.declared.boxes.Frame.{Frame}

-- the rectangle between these ends
abbrev pub frame : (left right top height : ℕ) → Frame
frame left right top height = record { left = left; right = right; top = top; height = height }

-- the class of a completion: one that says success, or another
abbrev pub status_class : StatusCode → List ℕ
status_class s = if (s.sct == 0) && (s.sc == 0) then codes "w" else codes "f"

-- the place of a post
abbrev pub posting_place : Option Posting → Option ℕ
posting_place None = None
posting_place (Some p) = Some p.place

-- what is said of an entry under the pointer: its command, and its completion where there is one
abbrev pub title_by : List ℕ → Option Posting → List ℕ
title_by words None = concat (codes "<title>" ∷ escaped words ∷ codes "</title>" ∷ [])
title_by words (Some p) =
    concat (codes "<title>" ∷ escaped words ∷ codes "; " ∷ escaped p.words ∷ codes "</title>" ∷ [])

-- the same, of a bar
abbrev pub title_svg : Bar → List ℕ
title_svg b = title_by b.words b.posted

-- The bar itself, from its Publish to its Reap.
abbrev pub frame_svg : ScaleState → Bar → List ℕ
frame_svg s b =
    rect_svg (codes "b")
    (frame (left_end_of s.from b.published) (right_end_of s.from s.columns b.reaped) (top_at s.rows b.row + 3) 40)

-- the ticket in a bar, from its Fetch to the Post of this entry
abbrev pub ticket_by : ScaleState → ℕ → Option ℕ → Option EntryFetch → List ℕ
ticket_by s top posted None = []
ticket_by s top posted (Some f) =
    let left = left_end_of s.from f.place in
    rect_svg (codes "t") (frame left (right_end_of s.from s.columns posted) (top + 23) 18)
    ++ concat (codes "<text class='d' x='" ∷ decimal (left + 40) ∷ codes "' y='" ∷ decimal (top + 36)
    ∷ codes "'>ticket " ∷ decimal f.ticket ∷ codes "</text>" ∷ [])

-- the same, of a bar
abbrev pub ticket_svg : ScaleState → Bar → List ℕ
ticket_svg s b = ticket_by s (top_at s.rows b.row) (posting_place b.posted) b.fetched

-- the part of a bar in which its completion waits
abbrev pub tail_by : ScaleState → ℕ → Option ℕ → Option Posting → List ℕ
tail_by s top reaped None = []
tail_by s top reaped (Some p) =
    rect_svg (status_class p.status)
    (frame (right_end_of s.from s.columns (Some p.place)) (right_end_of s.from s.columns reaped) (top + 23) 18)

-- the same, of a bar
abbrev pub tail_svg : ScaleState → Bar → List ℕ
tail_svg s b = tail_by s (top_at s.rows b.row) b.reaped b.posted

-- the words on a bar
abbrev pub label_svg : ScaleState → Bar → List ℕ
label_svg s b =
    let left = left_end_of s.from b.published in
    words_svg (left + 8) (top_at s.rows b.row + 17) b.words (room (right_end_of s.from s.columns b.reaped - left))

-- the box of a completion, while it waits in its completion queue
abbrev pub box_svg : ScaleState → Option ℕ → Posting → List ℕ
box_svg s reaped p =
    rect_svg (status_class p.status)
    (frame (left_end_of s.from p.place) (right_end_of s.from s.columns reaped) (top_at s.waits p.row + 3) 40)

-- its CID
abbrev pub cid_svg : ScaleState → Posting → List ℕ
cid_svg s p =
    concat (codes "<text x='" ∷ decimal (left_end_of s.from p.place + 8) ∷ codes "' y='"
    ∷ decimal (top_at s.waits p.row + 19) ∷ codes "'>CID " ∷ decimal p.cid ∷ codes "</text>" ∷ [])

-- the name of its status, as much of it as has room
abbrev pub status_svg : ScaleState → Option ℕ → Posting → List ℕ
status_svg s reaped p =
    let left = left_end_of s.from p.place in
    words_svg (left + 8) (top_at s.waits p.row + 35) (status_name p.status)
    (room (right_end_of s.from s.columns reaped - left))

-- A completion, while it waits in its completion queue: from its Post to its Reap.
abbrev pub posted_svg : ScaleState → Option ℕ → Posting → List ℕ
posted_svg s reaped p = concat (box_svg s reaped p ∷ cid_svg s p ∷ status_svg s reaped p ∷ [])

-- the same, where it was posted
abbrev pub wait_by : ScaleState → Option ℕ → Option Posting → List ℕ
wait_by s reaped None = []
wait_by s reaped (Some p) = posted_svg s reaped p

-- the same, of an entry
abbrev pub wait_svg : ScaleState → Bar → List ℕ
wait_svg s b = wait_by s b.reaped b.posted

-- The bar of an entry, with its ticket, its words and its completion.
abbrev pub bar_svg : ScaleState → Bar → List ℕ
bar_svg s b =
    concat (codes "<g>" ∷ title_svg b ∷ frame_svg s b ∷ ticket_svg s b ∷ tail_svg s b ∷ label_svg s b ∷ wait_svg s b
    ∷ codes "</g>" ∷ (10 ∷ []) ∷ [])

-- the bar of an entry that isn't reaped
abbrev pub open_svg : ScaleState → OpenBar → List ℕ
open_svg s x = bar_svg s x.bar

-- the class of a Block, by what it found
abbrev pub found_class : Found → List ℕ
found_class Found.Differs = codes "x"
found_class found = codes "c"

-- the star of a unit's effect
abbrev pub effect_word : Bool → List ℕ
effect_word effect = if effect then codes " *" else []

-- what a Block found, in the middle of its cell, with the star of its unit's effect
abbrev pub found_svg : (middle base : ℕ) → Cell → List ℕ
found_svg middle base x =
    concat (codes "<text class='d' x='" ∷ decimal middle ∷ codes "' y='" ∷ decimal base ∷ codes "'>"
    ∷ found_word x.found ∷ effect_word x.effect ∷ codes "</text>" ∷ (10 ∷ []) ∷ [])

-- The cell of a Block in the row of its entry, hatched where it differs.
abbrev pub cell_svg : ScaleState → Cell → List ℕ
cell_svg s x =
    let left = column_left s.from x.place in
    let top = top_at s.rows x.row in
    rect_svg (found_class x.found) (frame (left + 2) (left + 86) (top + 23) 18) ++ found_svg (left + 44) (top + 36) x
