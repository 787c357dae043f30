-- What was added, and the numbers that are left.
use Rattle.std.proofs.Common.{◌≡◌, ◌++◌, drop}
use Rattle.std.specs.Prelude.{flat_map}
use Rattle.casdisk_texts.specs.Objects.{behind_comma}
use Rattle.casdisk_texts.proofs.object.push_others.Given as goal

abbrev pub invariant-loop-n : goal.invariant-loop-n
invariant-loop-n l =
    l.initial.text.items ++ flat_map behind_comma l.numbers
    ≡ l.text.items ++ flat_map behind_comma (drop l.n-index l.numbers)
