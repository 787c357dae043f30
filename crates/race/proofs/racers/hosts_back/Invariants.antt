use Rattle.std.proofs.Common.{vec_len, ◌+◌, ◌≡◌, ◌≤◌}
use Rattle.std.specs.Vec.{vec_capacity}
use Rattle.race.specs.Ended.{EndDown}
use Rattle.race.specs.Racers.{AreOver, AreRacers}
use Rattle.race.proofs.racers.hosts_back.Given as goal

abbrev pub invariant-loop : goal.invariant-loop
invariant-loop l =
    AreRacers l.system l.play l.servers l.racers.items × AreOver l.racers.items
    × EndDown (λ h. h.pass) l.system.engine l.play l.servers l.top l.hosts.items
    × (vec_len l.racers + l.counter ≡ l.count) × (vec_len l.hosts ≡ l.counter)
    × (l.count ≤ vec_capacity l.hosts) × (l.top ≡ l.servers + l.count)
