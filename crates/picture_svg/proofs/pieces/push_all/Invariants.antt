-- What was added, and the pieces that are left.
use Rattle.std.proofs.Common.{◌≡◌, ◌++◌, drop}
use Rattle.std.specs.Prelude.{flat_map}
use Rattle.picture_svg.specs.Pieces.{piece_text}
use Rattle.picture_svg.proofs.pieces.push_all.Given as goal

abbrev pub invariant-loop-piece : goal.invariant-loop-piece
invariant-loop-piece l =
    l.initial.text.items ++ flat_map piece_text l.pieces
    ≡ l.text.items ++ flat_map piece_text (drop l.piece-index l.pieces)
