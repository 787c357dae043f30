-- The words so far are at most the others.
use Rattle.std.proofs.Common.{drop, map}
use Rattle.shrink.specs.Smaller.{AreAtMost}
use Rattle.shrink.proofs.smaller.are_at_most.Given as goal

abbrev pub invariant-loop-k : goal.invariant-loop-k
invariant-loop-k l =
    AreAtMost (map (λ w. w.now) (drop l.k l.words)) (map (λ w. w.now) (drop l.k l.others))
    → AreAtMost (map (λ w. w.now) l.words) (map (λ w. w.now) l.others)
