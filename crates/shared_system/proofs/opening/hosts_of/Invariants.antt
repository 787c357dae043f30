use Rattle.std.proofs.Common.{vec_len, ◌≡◌, ◌≤◌, ◌+◌}
use Rattle.std.specs.Vec.{vec_capacity}
use Rattle.shared_system.specs.Callers.{AreFirstPasses, AreFirstPlaces, AreLastHosts}
use Rattle.shared_system.proofs.opening.hosts_of.Given as goal

abbrev pub invariant-loop-k : goal.invariant-loop-k
invariant-loop-k g l =
    AreFirstPasses l.system l.config (vec_len l.fn.passes) l.passes.items
    × AreLastHosts l.system l.config (vec_len l.fn.passes) l.hosts.items
    × AreFirstPlaces l.system l.places.items
    × (vec_len l.hosts ≡ l.k) × (vec_len l.places + l.k ≡ l.config.cqs) × (vec_len l.passes + l.k ≡ vec_len l.fn.passes)
    × (l.count ≤ vec_capacity l.hosts) × (l.all ≡ vec_len l.fn.passes)
