-- Rectangles, and words in them.
use Rattle.std.specs.Prelude.{List, [], codes, decimal, take, ℕ, ◌-◌, ◌∷◌}
use Rattle.std.specs.List.{concat}
use Rattle.picture_svg.specs.Pieces.{escaped}
use Rattle.picture_svg.specs.declared.boxes.Frame.{Frame}

-- a rectangle of a class from one end to the other
abbrev pub rect_svg : List ℕ → Frame → List ℕ
rect_svg class f =
    concat (codes "<rect class='" ∷ class ∷ codes "' x='" ∷ decimal f.left ∷ codes "' y='" ∷ decimal f.top
    ∷ codes "' width='" ∷ decimal (f.right - f.left) ∷ codes "' height='" ∷ decimal f.height ∷ codes "' rx='4'/>" ∷ [])

-- the first characters of words, at most so many, from a left end on
abbrev pub words_svg : (left base : ℕ) → List ℕ → ℕ → List ℕ
words_svg left base words most =
    concat (codes "<text x='" ∷ decimal left ∷ codes "' y='" ∷ decimal base ∷ codes "'>" ∷ escaped (take most words)
    ∷ codes "</text>" ∷ [])
