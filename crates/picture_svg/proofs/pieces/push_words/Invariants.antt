-- What was added, and the bytes that are left.
use Rattle.std.proofs.Common.{◌≡◌, ◌++◌, drop}
use Rattle.std.specs.Prelude.{flat_map}
use Rattle.picture_svg.specs.Pieces.{escaped_byte}
use Rattle.picture_svg.proofs.pieces.push_words.Given as goal

abbrev pub invariant-loop-byte : goal.invariant-loop-byte
invariant-loop-byte l =
    l.initial.text.items ++ flat_map escaped_byte l.words
    ≡ l.text.items ++ flat_map escaped_byte (drop l.byte-index l.words)
