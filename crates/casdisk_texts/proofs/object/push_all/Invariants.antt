-- What was added, and the parts that are left.
use Rattle.std.proofs.Common.{◌≡◌, ◌++◌, drop}
use Rattle.std.specs.Prelude.{flat_map}
use Rattle.casdisk_texts.specs.Objects.{part_text}
use Rattle.casdisk_texts.proofs.object.push_all.Given as goal

abbrev pub invariant-loop-part : goal.invariant-loop-part
invariant-loop-part l =
    l.initial.text.items ++ flat_map part_text l.parts
    ≡ l.text.items ++ flat_map part_text (drop l.part-index l.parts)
