-- The bytes so far are the same.
use Rattle.std.proofs.Common.{◌≡◌, drop}
use Rattle.shrink.specs.Smaller.{in_order}
use Rattle.shrink.proofs.smaller.is_in_order.Given as goal

abbrev pub invariant-loop-k : goal.invariant-loop-k
invariant-loop-k l = in_order l.word l.other ≡ in_order (drop l.k l.word) (drop l.k l.other)
