use Rattle.std.proofs.Common.{All, vec_len, ◌≡◌}
use Rattle.std.specs.Vec.{vec_capacity}
use Rattle.hosts.specs.Stages.{IsWorkStage}
use Rattle.race.proofs.seeded_racing.idle_workers.Given as goal

abbrev pub invariant-loop : goal.invariant-loop
invariant-loop l = All (IsWorkStage l._system) l.working.items × (vec_len l.working ≡ l.counter)
    × (vec_capacity l.working ≡ vec_capacity l.initial.working)
