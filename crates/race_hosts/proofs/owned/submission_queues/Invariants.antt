use Rattle.std.proofs.Common.{All, true, vec_len, ◌+◌, ◌<◌, ◌≡◌, ◌≤◌}
use Rattle.std.specs.List.Sorted.{IsStrictlyIncreasing}
use Rattle.race_hosts.specs.Hosts.{HasEachBelow, uses}
use Rattle.race_hosts.proofs.owned.submission_queues.Given as goal

abbrev pub invariant-loop-k : goal.invariant-loop-k
invariant-loop-k l =
    IsStrictlyIncreasing l.queues.items × All (λ n. n < l.k + 1) l.queues.items
    × All (λ n. uses l.config l.queue n ≡ true) l.queues.items × (1 ≤ vec_len l.queues)
    × HasEachBelow l.config l.queue (l.k + 1) l.queues.items
