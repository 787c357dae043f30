use Rattle.std.proofs.Common.{vec_len, ◌+◌, ◌≡◌, ◌≤◌}
use Rattle.std.specs.Vec.{vec_capacity}
use Rattle.race.specs.Ended.{EndDown, HaveEnded}
use Rattle.race.proofs.closing.put_hosts.Given as goal

abbrev pub invariant-loop : goal.invariant-loop
invariant-loop l =
    EndDown (λ h. h.pass) l.system.engine l.play l.servers l.top l.hosts.items
    × HaveEnded l.system.engine l.play l.servers l.passes.items
    × (vec_len l.hosts + l.counter ≡ l.count) × (vec_len l.passes ≡ l.servers + l.counter)
    × (vec_capacity l.passes ≡ vec_capacity l.fn.passes) × (l.top ≤ vec_capacity l.fn.passes)
    × (l.top ≡ l.servers + l.count)
