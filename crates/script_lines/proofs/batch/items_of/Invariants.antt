-- The entries so far, and those of the parts that are left.
use Rattle.std.proofs.Common.{◌≡◌, drop, map}
use Rattle.script_lines.specs.Batches.{items_in}
use Rattle.history.proofs.Joining.{joined}
use Rattle.script_lines.proofs.ItemLaws.{words_of}
use Rattle.script_lines.proofs.batch.items_of.Given as goal

abbrev pub invariant-loop-part : goal.invariant-loop-part
invariant-loop-part l =
    joined l.items.items (items_in (drop l.part-index (map words_of l.parts))) ≡ items_in (map words_of l.parts)
