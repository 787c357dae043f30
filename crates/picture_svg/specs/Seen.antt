-- What hosts saw, in the picture of a witness.
use Rattle.std.specs.Prelude.{Bool, List, [], codes, decimal, false, flat_map, if◌then◌else◌, true, ℕ, ◌+◌, ◌∷◌}
use Rattle.std.specs.List.{concat}
use Rattle.picture_shapes.specs.declared.head.Head.{Head}
use Rattle.picture_shapes.specs.declared.head.EntryKind.{EntryKind}
use Rattle.picture_shapes.specs.declared.picture.Subject.{Subject}
use Rattle.picture_svg.specs.Columns.{column_left}
use Rattle.picture_svg.specs.Scale.{ScaleState, bottom_of}
use Rattle.picture_svg.specs.declared.style.TheConstants.{SEEN_STYLE}

-- whether hosts see a step of this kind
abbrev pub is_seen : EntryKind → Bool
is_seen EntryKind.Publish = true
is_seen EntryKind.Reap = true
is_seen kind = false

-- A column that hosts saw: a band right through, and the word `seen` below its kind.
abbrev pub band_svg : ScaleState → Head → List ℕ
band_svg s h =
    let left = column_left s.from h.place in
    concat (codes "<rect class='q' x='" ∷ decimal left ∷ codes "' width='88' height='" ∷ decimal (bottom_of s)
    ∷ codes "'/><text class='k' x='" ∷ decimal (left + 44) ∷ codes "' y='54'>seen</text>" ∷ (10 ∷ []) ∷ [])

-- the same, where it is one
abbrev pub seen_head : ScaleState → Head → List ℕ
seen_head s h = if is_seen h.kind then band_svg s h else []

-- all columns that hosts saw, and how they look
abbrev pub witness_svg : ScaleState → List Head → List ℕ
witness_svg s heads = concat (SEEN_STYLE.now ∷ flat_map (seen_head s) heads ∷ [])

-- The columns that hosts saw, where the picture is of a witness.
abbrev pub seen_svg : ScaleState → List Head → Subject → List ℕ
seen_svg s heads Subject.History = []
seen_svg s heads Subject.Witness = witness_svg s heads
