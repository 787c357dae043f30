use Rattle.std.proofs.Common.{All, List, map, reverse, vec_len, ◌+◌, ◌++◌, ◌≡◌}
use Rattle.std.specs.List.{AllZip}
use Rattle.std.specs.Vec.{vec_capacity}
use Rattle.shared_system.specs.Callers.{IsHostOf}
use Rattle.shared_system.specs.declared.system.HostPasses.{HostPasses}
use Rattle.race_hosts.specs.Playing.{Promises}
use Rattle.race_hosts.proofs.host_threads.start_hosts.Given as goal

-- those whose hosts were started stood behind those that are left
abbrev pub invariant-loop : goal.invariant-loop
invariant-loop g l =
    All (IsHostOf l.system l.play.config) l.callers.items
    × (vec_len l.started + vec_len l.callers ≡ vec_len l.fn.callers)
    × (vec_capacity l.started ≡ vec_capacity l.fn.started) × (vec_capacity l.callers ≡ vec_capacity l.fn.callers)
    × (vec_len l.started ≡ l.counter)
    × (begun : List HostPasses) × (l.fn.callers.items ≡ l.callers.items ++ begun)
    × AllZip (Promises l.system l.play) begun (reverse (map (λ h. h.promise) l.started.items))
