-- The heads of the columns, and the rules through them.
use Rattle.std.specs.Prelude.{List, None, Option, Some, [], codes, decimal, if◌then◌else◌, ℕ, ◌+◌, ◌∷◌}
use Rattle.std.specs.List.{concat}
use Rattle.picture_shapes.specs.declared.head.Head.{Head}
use Rattle.picture_shapes.specs.declared.head.EntryKind.{EntryKind}
use Rattle.picture_shapes.specs.declared.picture.BadColumn.{BadColumn}
use Rattle.picture_svg.specs.Pieces.{escaped}
use Rattle.picture_svg.specs.Scale.{ScaleState, bottom_of}
use Rattle.picture_svg.specs.Columns.{column_left}

-- the name of a kind
abbrev pub kind_name : EntryKind → List ℕ
kind_name EntryKind.Publish = codes "publish"
kind_name EntryKind.Fetch = codes "fetch"
kind_name EntryKind.Grant = codes "grant"
kind_name EntryKind.Block = codes "block"
kind_name EntryKind.Post = codes "post"
kind_name EntryKind.Reap = codes "reap"

-- The rule of a mark, from the head of its column right through all rows, and a star above it.
abbrev pub mark_svg : ScaleState → Head → List ℕ
mark_svg s h =
    let middle = column_left s.from h.place + 44 in
    if h.mark then concat (codes "<path class='m' d='M" ∷ decimal middle ∷ codes " 62V" ∷ decimal (bottom_of s)
    ∷ codes "'/><text class='s' x='" ∷ decimal middle ∷ codes "' y='60'>*</text>" ∷ [])
    else []

-- the line of a step, which its head shows under the pointer
abbrev pub line_svg : Head → List ℕ
line_svg h = concat (codes "<g><title>" ∷ decimal h.place ∷ codes ": " ∷ escaped h.words ∷ codes "</title>" ∷ [])

-- what the pointer rests on to see that line
abbrev pub hover_svg : ScaleState → Head → List ℕ
hover_svg s h =
    concat (codes "<rect class='h' x='" ∷ decimal (column_left s.from h.place)
    ∷ codes "' width='88' height='62'/>" ∷ [])

-- the place of a step above its column
abbrev pub place_svg : ScaleState → Head → List ℕ
place_svg s h =
    concat (codes "<text class='n' x='" ∷ decimal (column_left s.from h.place + 44) ∷ codes "' y='20'>"
    ∷ decimal h.place ∷ codes "</text>" ∷ [])

-- the kind of a step above its column
abbrev pub kind_svg : ScaleState → Head → List ℕ
kind_svg s h =
    concat (codes "<text class='k' x='" ∷ decimal (column_left s.from h.place + 44) ∷ codes "' y='37'>"
    ∷ kind_name h.kind ∷ codes "</text>" ∷ [])

-- The head of a column: the place of its step, its kind and its line, with the rule of its mark.
abbrev pub head_svg : ScaleState → Head → List ℕ
head_svg s h =
    concat (line_svg h ∷ hover_svg s h ∷ place_svg s h ∷ kind_svg s h ∷ mark_svg s h ∷ codes "</g>" ∷ (10 ∷ []) ∷ [])

-- the column of the first bad step, hatched
abbrev pub shade_svg : ScaleState → BadColumn → List ℕ
shade_svg s b =
    concat (codes "<rect class='y' x='" ∷ decimal (column_left s.from b.place)
    ∷ codes "' width='88' height='" ∷ decimal (bottom_of s) ∷ codes "'/>" ∷ [])

-- the rule through it
abbrev pub rule_svg : ScaleState → BadColumn → List ℕ
rule_svg s b =
    concat (codes "<path class='r' d='M" ∷ decimal (column_left s.from b.place + 44) ∷ codes " 44V"
    ∷ decimal (bottom_of s) ∷ codes "'/>" ∷ [])

-- why it is bad, in words below all rows
abbrev pub why_svg : ScaleState → BadColumn → List ℕ
why_svg s b =
    concat (codes "<text class='e' x='8' y='" ∷ decimal (bottom_of s + 20) ∷ codes "'>" ∷ escaped b.words
    ∷ codes "</text>" ∷ (10 ∷ []) ∷ [])

-- The rule through the first bad step, and why it is bad.
abbrev pub bad_step_svg : ScaleState → BadColumn → List ℕ
bad_step_svg s b = concat (shade_svg s b ∷ rule_svg s b ∷ why_svg s b ∷ [])

-- the same, where there is one
abbrev pub bad_svg : ScaleState → Option BadColumn → List ℕ
bad_svg s None = []
bad_svg s (Some b) = bad_step_svg s b
