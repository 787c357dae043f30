use Rattle.std.proofs.Common.{List, map, reverse, vec_len, ◌+◌, ◌++◌, ◌≡◌, ◌≤◌}
use Rattle.std.specs.List.{AllZip}
use Rattle.std.specs.Vec.{vec_capacity}
use Rattle.hosts.specs.Returning.{GaveBack}
use Rattle.hosts.proofs.joining.join_each.Given as goal

-- what was joined stood behind what is left, and its passes stand behind those that were there
abbrev pub invariant-loop : goal.invariant-loop
invariant-loop g l =
    (vec_len l.started + l.counter ≡ vec_len l.fn.started)
    × (vec_len l.callers + vec_len l.started ≤ vec_capacity l.callers)
    × (joined : List _) × (back : List _) × (l.fn.started.items ≡ l.started.items ++ joined)
    × (l.callers.items ≡ l.fn.callers.items ++ back)
    × AllZip (GaveBack g.P.Promise.kept_by l.ends) (reverse (map (λ h. h.promise) joined)) back
