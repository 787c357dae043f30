use Rattle.race.specs.Racers.{AreAllRacers}
use Rattle.race.proofs.seeded_racing.to_the_end.Given as goal

abbrev pub invariant-loop : goal.invariant-loop
invariant-loop g l = AreAllRacers l.scene l.racers
