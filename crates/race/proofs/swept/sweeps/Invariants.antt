use Rattle.race.specs.Survivors.{AreAllParties}
use Rattle.race.proofs.swept.sweeps.Given as goal

abbrev pub invariant-loop : goal.invariant-loop
invariant-loop g l = AreAllParties l.scene l.fates l.sweep
