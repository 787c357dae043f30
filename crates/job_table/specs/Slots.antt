-- How the tickets in flight are kept: the keys by rising ticket, and at each key the ticket with its job.
use Rattle.std.specs.List.{filter_map}
use Rattle.std.specs.Prelude.{List, Some, [], length, ℕ, ◌∷◌, ◌≡◌, ◌≤◌}
use Rattle.slab.specs.Slab.{Slab, get, slab_len}
use Rattle.job_table.specs.Keyed.{AreKeyedRising, KeyedTickets}
use Rattle.job_table.specs.declared.tickets.Keyed.{Keyed}
use Rattle.job_table.specs.declared.jobs.InFlight.{InFlight}

-- the tickets in flight, by the keys in this order
abbrev pub jobs_in : Slab InFlight → List Keyed → List InFlight
jobs_in s ks = filter_map (λ k. get s k.key) ks

-- what is at the key has the ticket
pub record HoldsOne (s : Slab InFlight) (k : Keyed) : Type 0 where
  pub one : InFlight
  pub there : get s k.key ≡ Some one
  pub ticket : one.ticket ≡ k.ticket

-- so it is of each
abbrev pub HoldsEach : Slab InFlight → List Keyed → Type 0
HoldsEach s [] = Unit {0}
HoldsEach s (k ∷ ks) = HoldsOne s k × HoldsEach s ks

-- how a table is kept: the tickets rise, each at its key, no more than the limit, and there is room for that many
pub record IsJobTable (limit : ℕ) (x : KeyedTickets) (s : Slab InFlight) : Type 0 where
  pub rising : AreKeyedRising x.keyed
  pub each : HoldsEach s x.keyed
  pub count : slab_len s ≡ length x.keyed
  pub within : length x.keyed ≤ limit
  pub limit_is : x.limit ≡ limit
  pub room : limit ≤ s.capacity
