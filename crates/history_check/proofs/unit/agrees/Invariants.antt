use Rattle.std.proofs.Common.{◌≡◌, length}
use Rattle.history_check.specs.Judged.{agrees}
use Rattle.history_check.proofs.unit.agrees.Given as goal

abbrev pub invariant-loop-word : goal.invariant-loop-word
invariant-loop-word l = agrees l.rest l.left ≡ agrees l.said l.right

abbrev pub decreases-loop-word : goal.decreases-loop-word
decreases-loop-word l = length l.rest
