use Rattle.std.proofs.Common.{vec_len, ◌+◌, ◌≡◌, ◌≤◌}
use Rattle.std.specs.Vec.{vec_capacity}
use Rattle.shared_system.specs.Callers.{AreLastHosts}
use Rattle.race.specs.Racers.{AreRacers}
use Rattle.race.proofs.racers.racers_of.Given as goal

abbrev pub invariant-loop : goal.invariant-loop
invariant-loop l =
    AreLastHosts l.system l.play.config l.all l.hosts.items
    × AreRacers l.system l.play l.servers l.racers.items
    × (vec_len l.hosts + l.counter ≡ l.count) × (vec_len l.racers ≡ l.counter)
    × (l.count ≤ vec_capacity l.racers) × (l.count ≡ l.play.config.cqs) × (l.all ≡ l.servers + l.play.config.cqs)
