-- A disk with hosts that keep locks, as contracts see it.
use Rattle.std.specs.Prelude.{Bool, List, None, Option, Some, false, if◌then◌else◌, replicate, slice_get, slice_set}
use Rattle.std.specs.Prelude.{ℕ}
use Rattle.std.specs.Prelude.{◌-◌, ◌<◌, ◌==◌, ◌≡◌, ◌⊎◌}
use Rattle.nvme_model.specs.declared.array.Range.{Range}
use Rattle.nvme_model.specs.declared.config.ConfigNumbers.{ConfigNumbers}

-- A host: whether a call of it is under way, and of each slot whether the host has it.
pub record HostView : Type 0 where
  pub calls : Bool
  pub has : List Bool

-- A disk: its configuration, the blocks of its slots, and its hosts, host 1 first.
pub record DiskView : Type 0 where
  pub config : ConfigNumbers
  pub slots : Range
  pub hosts : List HostView

-- host h, if there is one
abbrev pub host_in : DiskView → ℕ → Option HostView
host_in d h = if h == 0 then None else slice_get d.hosts (h - 1)

-- there is such a slot, and it is had
abbrev pub is_so : Option Bool → Bool
is_so None = false
is_so (Some b) = b

-- the host has slot i
abbrev pub has_slot : HostView → ℕ → Bool
has_slot v i = is_so (slice_get v.has i)

-- that host has it, if there is one
abbrev pub is_had_by : Option HostView → ℕ → Bool
is_had_by None i = false
is_had_by (Some v) i = has_slot v i

-- host h has slot i
abbrev pub has : DiskView → ℕ → ℕ → Bool
has d h i = is_had_by (host_in d h) i

-- a disk, by its parts
abbrev pub disk_of : ConfigNumbers → Range → List HostView → DiskView
disk_of c slots hosts = record { config = c; slots = slots; hosts = hosts }

-- a host that has none of so many slots, and no call
abbrev pub idle_host : ℕ → HostView
idle_host n = record { calls = false; has = replicate n false }

-- a disk of which no host has a slot
abbrev pub new_disk : ConfigNumbers → Range → DiskView
new_disk c slots = disk_of c slots (replicate c.cqs (idle_host slots.blocks))

-- the disk whose host h is another
abbrev pub with_host : DiskView → ℕ → HostView → DiskView
with_host d h v = disk_of d.config d.slots (slice_set d.hosts (h - 1) v)

-- among so many hosts there is none of this number
abbrev pub IsNoHost : ℕ → ℕ → Type 0
IsNoHost h count = (h ≡ 0) ⊎ (count < h)
