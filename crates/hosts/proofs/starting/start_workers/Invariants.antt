use Rattle.std.proofs.Common.{All, List, map, reverse, vec_len, ◌+◌, ◌++◌, ◌≡◌}
use Rattle.std.specs.List.{AllZip}
use Rattle.std.specs.Vec.{vec_capacity}
use Rattle.hosts.specs.Crews.{IsWorkerBack}
use Rattle.shared_system.specs.Callers.{IsWorkerOf}
use Rattle.shared_system.specs.declared.system.WorkerPasses.{WorkerPasses}
use Rattle.hosts.proofs.starting.start_workers.Given as goal

-- those whose workers were started stood behind those that are left
abbrev pub invariant-loop : goal.invariant-loop
invariant-loop g l =
    All (IsWorkerOf l.system) l.callers.items
    × (vec_len l.started + vec_len l.callers ≡ vec_len l.fn.callers)
    × (vec_capacity l.started ≡ vec_capacity l.fn.started) × (vec_capacity l.callers ≡ vec_capacity l.fn.callers)
    × (vec_len l.started ≡ l.counter)
    × (begun : List WorkerPasses) × (l.fn.callers.items ≡ l.callers.items ++ begun)
    × AllZip (IsWorkerBack l.system) begun (reverse (map (λ h. h.promise) l.started.items))
