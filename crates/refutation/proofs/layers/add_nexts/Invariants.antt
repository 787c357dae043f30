use Rattle.std.proofs.Common.{length, ◌-◌, ◌≡◌}
use Rattle.std.specs.List.{range_with_len}
use Rattle.refutation.specs.Layers.{with_nexts}
use Rattle.refutation.proofs.layers.add_nexts.Given as goal

abbrev pub invariant-loop-number : goal.invariant-loop-number
invariant-loop-number l =
    (l.number-end ≡ length l.slice)
    × (with_nexts l.blank l.slice l.made.items l.order (range_with_len l.number (l.number-end - l.number))
    ≡ with_nexts l.blank l.slice l.initial.made.items l.order (range_with_len 0 l.number-end))
