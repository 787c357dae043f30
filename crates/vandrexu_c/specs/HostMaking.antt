-- What contracts say of making a host of a disk.
use Rattle.std.specs.Prelude.{None, Option, ℕ, ◌+◌, ◌≡◌}
use Rattle.c_handles.specs.Owned.{Keeps}
use Rattle.c_handles.specs.Disks.{disk_config, disk_engine, disk_slots, hosts_had}
use Rattle.c_handles.specs.Making.{HasGiven, IsNewcomer, IsNoted, MayRefuseHost, passes_left}
use Rattle.c_handles.specs.declared.disk.Disk.{Disk}
use Rattle.vandrexu_c.specs.HostStates.{HostState}
use Rattle.vandrexu_c.specs.Hosts.{IsNewHost}

-- One of the passes is used, by a host whose number and completion queue no host had before, which is noted.
pub record IsGiven (d e : Disk) (number queue : ℕ) : Type 0 where
  pub one : passes_left e + 1 ≡ passes_left d
  pub new : IsNewcomer d number queue
  pub noted : IsNoted d e number queue

-- No host was made, for one of the causes; passes and hosts are as before.
pub record IsNotGiven (d e : Disk) (number queue told : ℕ) : Type 0 where
  pub none : passes_left e ≡ passes_left d
  pub same_hosts : hosts_had e ≡ hosts_had d
  pub cause : MayRefuseHost d number queue told

-- A host was made with one of the passes, or it is told why not.
pub record MakesHost (d e : Disk) (number queue told : ℕ) (made : Option HostState) : Type 0 where
  pub same : HasGiven d e
  pub done : told ≡ 0 →
      Keeps made (IsNewHost (disk_engine d) (disk_config d) number queue (disk_slots d)) × IsGiven d e number queue
  pub failed : (told ≡ 0 → ⊥) → (made ≡ None) × IsNotGiven d e number queue told
