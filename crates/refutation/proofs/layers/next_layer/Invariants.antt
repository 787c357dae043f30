use Rattle.std.proofs.Common.{[], drop, ◌≡◌}
use Rattle.refutation.specs.Layers.{layer_from}
use Rattle.refutation.proofs.layers.next_layer.Given as goal

abbrev pub invariant-loop-order : goal.invariant-loop-order
invariant-loop-order l =
    layer_from l.blank l.slice l.made.items (drop l.order-index l.layer) ≡ layer_from l.blank l.slice [] l.layer
