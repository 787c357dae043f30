-- What contracts say of hosts of a disk that ended, which the disk keeps by their numbers.
use Rattle.std.specs.List.{position}
use Rattle.std.specs.Prelude.{List, None, Option, Some, slice_get, ℕ, ◌==◌, ◌≡◌, ◌⊎◌}
use Rattle.slab.specs.Slab.{slab_len}
use Rattle.c_handles.specs.EndedStates.{EndedState}
use Rattle.c_handles.specs.declared.disk.Disk.{Disk}

-- the hosts of a disk that ended, by completion queue; nobody where none was made, and where one lives
abbrev pub hosts_ended : Disk → List (Option EndedState)
hosts_ended d = d.ended.items

-- where a host's number stands among those that were made, from 0
abbrev pub host_place : Disk → ℕ → Option ℕ
host_place d n = position (λ m. m == n) d.numbers

-- the host of this number was made, and hasn't ended; its place is this one
abbrev pub Lives : Disk → ℕ → ℕ → Type 0
Lives d n place = (host_place d n ≡ Some place) × (slice_get (hosts_ended d) place ≡ Some None)

-- the host of this number ended so, and is kept at this place
abbrev pub IsKeptAt : Disk → ℕ → ℕ → EndedState → Type 0
IsKeptAt d n place h = (host_place d n ≡ Some place) × (slice_get (hosts_ended d) place ≡ Some (Some h))

-- no host of this number is kept
abbrev pub HasNoneEnded : Disk → ℕ → Type 0
HasNoneEnded d n = (place : ℕ) (h : EndedState) → IsKeptAt d n place h → ⊥

-- why a host doesn't end: it has a call under a number, or the disk made none of its number that lives
abbrev pub MayRefuseEnd : Disk → EndedState → ℕ → Type 0
MayRefuseEnd d h told =
    ((told ≡ 116) × (slab_len h.calls ≡ 0 → ⊥))
    ⊎ ((told ≡ 130) × ((place : ℕ) → Lives d h.driver.host place → ⊥))

-- the same disk, but for the hosts that ended
pub record IsBesideEnded (d e : Disk) : Type 0 where
  pub config : e.config ≡ d.config
  pub slots : e.slots ≡ d.slots
  pub engine : e.engine ≡ d.engine
  pub server : e.server ≡ d.server
  pub passes : e.passes ≡ d.passes
  pub numbers : e.numbers ≡ d.numbers
  pub work : e.work ≡ d.work
