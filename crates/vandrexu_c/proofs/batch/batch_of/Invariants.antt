-- The entries so far, and those that are left.
use Rattle.std.proofs.Common.{length, ◌≡◌}
use Rattle.vandrexu_c.specs.Batches.{submissions_of}
use Rattle.vandrexu_c.proofs.Batches.{joined}
use Rattle.vandrexu_c.proofs.batch.batch_of.Given as goal

abbrev pub invariant-loop-first : goal.invariant-loop-first
invariant-loop-first l = joined l.items.items (submissions_of l.left l.data) ≡ submissions_of l.entries l.bytes

abbrev pub decreases-loop-first : goal.decreases-loop-first
decreases-loop-first l = length l.left
