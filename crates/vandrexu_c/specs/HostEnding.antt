-- What contracts say of a host of a disk that ends, and is made again.
use Rattle.std.specs.Prelude.{None, Option, Some, [], slice_set, ℕ, ◌≡◌, ◌⊎◌}
use Rattle.slab.specs.Slab.{slab_len}
use Rattle.c_handles.specs.EndedStates.{EndedState}
use Rattle.c_handles.specs.Ended.{HasNoneEnded, IsBesideEnded, IsKeptAt, Lives, MayRefuseEnd, hosts_ended}
use Rattle.c_handles.specs.Owned.{Keeps}
use Rattle.c_handles.specs.declared.disk.Disk.{Disk}
use Rattle.vandrexu_c.specs.HostStates.{HostState}

-- The host ended: it lived, had no call under a number, and is kept by its disk as it was, at its number's place.
pub record IsEnded (d e : Disk) (h : HostState) : Type 0 where
  pub place : ℕ
  pub lived : Lives d h.host.driver.host place
  pub idle : slab_len h.host.calls ≡ 0
  pub kept : hosts_ended e ≡ slice_set (hosts_ended d) place (Some h.host)

-- A host ends, and its handle owns nothing; or it is told why not, and nothing has changed.
pub record EndsHost (d e : Disk) (h : HostState) (told : ℕ) (left : Option HostState) : Type 0 where
  pub same : IsBesideEnded d e
  pub done : told ≡ 0 → (left ≡ None) × IsEnded d e h
  pub failed : (told ≡ 0 → ⊥) →
      (left ≡ Some h) × (hosts_ended e ≡ hosts_ended d) × MayRefuseEnd d h.host told

-- the host that ended so, which has read nothing since
pub record IsAgain (ended : EndedState) (h : HostState) : Type 0 where
  pub host : h.host ≡ ended
  pub nothing_read : h.payload ≡ []

-- The host of this number, which ended, is as it was, and the disk keeps it no longer.
pub record IsMadeAgain (d e : Disk) (number : ℕ) (h : HostState) : Type 0 where
  pub place : ℕ
  pub ended : EndedState
  pub was : IsKeptAt d number place ended
  pub again : IsAgain ended h
  pub others : hosts_ended e ≡ slice_set (hosts_ended d) place None

-- why no host is made again: none of this number ended, or memory was refused
abbrev pub MayRefuseAgain : Disk → ℕ → ℕ → Type 0
MayRefuseAgain d number told = ((told ≡ 130) × HasNoneEnded d number) ⊎ (told ≡ 11)

-- A host was made again, or it is told why not, and nothing has changed.
pub record MakesAgain (d e : Disk) (number told : ℕ) (made : Option HostState) : Type 0 where
  pub same : IsBesideEnded d e
  pub done : told ≡ 0 → Keeps made (IsMadeAgain d e number)
  pub failed : (told ≡ 0 → ⊥) →
      (made ≡ None) × (hosts_ended e ≡ hosts_ended d) × MayRefuseAgain d number told
