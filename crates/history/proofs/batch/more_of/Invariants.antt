-- The entries so far, and those of the words that are left.
use Rattle.std.proofs.Common.{◌≡◌, Some, map, length}
use Rattle.history.specs.BatchWords.{more_in, then_item}
use Rattle.history.proofs.Joining.{joined}
use Rattle.history.proofs.batch.more_of.Given as goal

abbrev pub invariant-loop-rest : goal.invariant-loop-rest
invariant-loop-rest l = joined l.items.items (more_in (map (λ w. w.now) l.rest))
    ≡ then_item (Some l.fn.first) (more_in (map (λ w. w.now) l.words))

abbrev pub decreases-loop-rest : goal.decreases-loop-rest
decreases-loop-rest l = length l.rest
