use Rattle.std.proofs.Common.{vec_len, ◌≡◌}
use Rattle.race.specs.Racers.{AreAllRacers}
use Rattle.race.proofs.crash_racing.to_the_crash.Given as goal

abbrev pub invariant-loop : goal.invariant-loop
invariant-loop g l = AreAllRacers l.scene l.racers × (vec_len l.fates ≡ l.scene.race.now.hosts)
    × (vec_len l.fates ≡ vec_len l.initial.fates)
