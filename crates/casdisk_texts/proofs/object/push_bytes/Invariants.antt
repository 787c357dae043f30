-- What was added, and the bytes that are left.
use Rattle.std.proofs.Common.{◌≡◌, ◌++◌, drop}
use Rattle.std.specs.Prelude.{flat_map}
use Rattle.casdisk_texts.specs.Objects.{escaped_byte}
use Rattle.casdisk_texts.proofs.object.push_bytes.Given as goal

abbrev pub invariant-loop-byte : goal.invariant-loop-byte
invariant-loop-byte l =
    l.initial.text.items ++ flat_map escaped_byte l.words
    ≡ l.text.items ++ flat_map escaped_byte (drop l.byte-index l.words)
