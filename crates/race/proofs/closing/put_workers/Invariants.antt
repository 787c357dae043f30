use Rattle.std.proofs.Common.{vec_len, ◌+◌, ◌≡◌, ◌≤◌}
use Rattle.std.specs.Vec.{vec_capacity}
use Rattle.race.specs.Ended.{EndDown, HaveEnded}
use Rattle.race.proofs.closing.put_workers.Given as goal

abbrev pub invariant-loop : goal.invariant-loop
invariant-loop l =
    EndDown (λ w. w.caller.pass) l.system.engine l.play l.servers l.top l.workers.items
    × HaveEnded l.system.engine l.play l.servers l.passes.items
    × (vec_len l.workers + l.counter ≡ l.top) × (vec_len l.passes ≡ l.counter)
    × (vec_capacity l.passes ≡ vec_capacity l.fn.passes) × (l.top ≤ vec_capacity l.fn.passes)
