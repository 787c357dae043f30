use Rattle.std.proofs.Common.{List, drop, ℕ, ◌≡◌}
use Rattle.refutation.specs.Orders.{written}
use Rattle.refutation.proofs.following.written.Given as goal

abbrev pub invariant-loop-held : goal.invariant-loop-held
invariant-loop-held l =
    (before : List ℕ) → written l.blocks l.block before ≡ written (drop l.held-index l.blocks) l.block before
