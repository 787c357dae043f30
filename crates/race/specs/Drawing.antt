-- Who makes a turn, by what was drawn.
use Rattle.std.specs.Prelude.{if◌then◌else◌, nat_lt, ℕ, ◌%◌, ◌*◌, ◌+◌, ◌-◌, ◌<◌}
use Rattle.race_numbers.specs.declared.bias.Bias.{Bias}
use Rattle.race_numbers.specs.declared.race.Race.{Race}
use Rattle.race.specs.declared.drawing.Actor.{Actor}

-- the weights of the fetcher, of all workers and of all hosts together
abbrev pub weight_of_all : Race → Bias → ℕ
weight_of_all r b = b.fetcher + b.worker * r.workers + b.host * r.hosts

-- Who has this number: the fetcher has as many as its weight, then each worker, and then each host.
abbrev pub actor_of : Race → Bias → ℕ → Actor
actor_of r b n =
    if nat_lt n b.fetcher then Actor.Fetcher
    else if nat_lt (n - b.fetcher) (b.worker * r.workers) then Actor.Worker ((n - b.fetcher) % r.workers)
    else Actor.Host ((n - b.fetcher) % r.hosts)

-- the race has such a worker, or such a host
abbrev pub IsActorIn : Race → Actor → Type 0
IsActorIn r Actor.Fetcher = Unit {0}
IsActorIn r (Actor.Worker k) = k < r.workers
IsActorIn r (Actor.Host k) = k < r.hosts
