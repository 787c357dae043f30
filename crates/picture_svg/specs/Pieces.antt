-- Pieces of a text.
use Rattle.std.specs.Prelude.{List, codes, decimal, flat_map, if◌then◌else◌, nat_lt, take, ℕ, ◌==◌, ◌∷◌, []}
use Rattle.picture_svg.specs.declared.pieces.Piece.{Piece}
use Rattle.picture_svg.specs.declared.pieces.Piece.TheVariants.{Clipped, Number, Raw, Words}

-- A byte of words as it stands in SVG: what has a meaning there is replaced, and what may not stand there is a space.
abbrev pub escaped_byte : ℕ → List ℕ
escaped_byte b =
    if b == 38 then codes "&amp;"
    else if b == 60 then codes "&lt;"
    else if b == 62 then codes "&gt;"
    else if nat_lt b 32 then codes " "
    else b ∷ []

-- Words as they stand in SVG.
abbrev pub escaped : List ℕ → List ℕ
escaped words = flat_map escaped_byte words

-- The text of a piece.
abbrev pub piece_text : Piece → List ℕ
piece_text (Raw bytes) = bytes.now
piece_text (Number n) = decimal n
piece_text (Words words) = escaped words.now
piece_text (Clipped words most) = escaped (take most words.now)
