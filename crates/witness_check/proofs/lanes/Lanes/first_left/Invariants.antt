-- The least of those that were looked at.
use Rattle.witness_check.proofs.Placing.{IsLeast}
use Rattle.witness_check.proofs.lanes.Lanes.first_left.Given as goal

abbrev pub invariant-loop-at : goal.invariant-loop-at
invariant-loop-at l = IsLeast l.trace l.self l.at l.first
