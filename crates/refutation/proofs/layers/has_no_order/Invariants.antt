use Rattle.std.proofs.Common.{length, ◌-◌, ◌≡◌}
use Rattle.refutation.specs.Layers.{ends, has_no_order}
use Rattle.refutation.proofs.layers.has_no_order.Given as goal

abbrev pub invariant-steps : goal.invariant-steps
invariant-steps l =
    (l.end ≡ length l.slice)
    × (ends l.blank l.slice (l.end - l.counter) l.layer.items ≡ has_no_order l.blank l.slice)
