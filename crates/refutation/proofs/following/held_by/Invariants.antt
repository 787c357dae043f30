use Rattle.std.proofs.Common.{drop, ◌≡◌}
use Rattle.refutation.specs.Orders.{held_by}
use Rattle.refutation.proofs.following.held_by.Given as goal

abbrev pub invariant-loop-number : goal.invariant-loop-number
invariant-loop-number l =
    held_by l.blank l.slice l.order l.block ≡ held_by l.blank l.slice (drop l.number-index l.order) l.block
