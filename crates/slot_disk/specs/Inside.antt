-- What a disk is made of.
use Rattle.std.specs.Arc.{arc_value}
use Rattle.std.specs.Prelude.{length, ℕ, ◌≡◌, ◌≤◌}
use Rattle.slot_disk.specs.Hosts.{AreHosts, IsServer, views}
use Rattle.slot_disk.specs.Views.{DiskView, disk_of}
use Rattle.slot_disk.specs.declared.slot_disk.SlotDisk.TheInside.{Inside}

-- what contracts see of it
abbrev pub disk_view : Inside → DiskView
disk_view d = disk_of d.setting.config d.setting.slots (views d.hosts.items)

-- A host of each completion queue, and a pass that serves.
pub record IsSlotDisk (d : Inside) : Type 0 where
  pub some : 1 ≤ d.setting.config.cqs
  pub count : length d.hosts.items ≡ d.setting.config.cqs
  pub hosts : AreHosts (arc_value d.setting.engine) d.setting.config d.setting.slots d.hosts.items
  pub server : IsServer (arc_value d.setting.engine) d.setting.config d.server
