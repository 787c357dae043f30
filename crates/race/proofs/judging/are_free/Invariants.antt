use Rattle.race.proofs.Freeing.{FreeFrom}
use Rattle.race.proofs.judging.are_free.Given as goal

abbrev pub invariant-loop-k : goal.invariant-loop-k
invariant-loop-k c = FreeFrom c.core.past c.slots.slba c.k
