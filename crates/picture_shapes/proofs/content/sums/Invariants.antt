-- The sums so far, and the bytes that are left.
use Rattle.std.proofs.Common.{◌≡◌, drop}
use Rattle.picture_shapes.specs.Contents.{sums}
use Rattle.picture_shapes.proofs.content.sums.Given as goal

abbrev pub invariant-loop-byte : goal.invariant-loop-byte
invariant-loop-byte l = sums 0 0 l.bytes ≡ sums l.sum l.all (drop l.byte-index l.bytes)
