use Rattle.std.proofs.Common.{All, vec_len, ◌+◌, ◌≡◌, ◌≤◌}
use Rattle.std.specs.Vec.{vec_capacity}
use Rattle.race.specs.Racers.{AreRacers}
use Rattle.race.specs.Survivors.{IsParty}
use Rattle.race.proofs.fencing.parties_of.Given as goal

abbrev pub invariant-loop : goal.invariant-loop
invariant-loop l =
    AreRacers l.system l.play l.servers l.racers.items × All (IsParty l.system l.play l.fates.items) l.parties.items
    × (vec_len l.racers + l.counter ≡ l.count) × (vec_len l.parties ≡ l.counter)
    × (l.count ≤ vec_capacity l.parties) × (l.count ≤ vec_len l.fates)
