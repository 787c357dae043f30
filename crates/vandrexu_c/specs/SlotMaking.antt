-- What contracts say of making a slot host of a disk.
use Rattle.std.specs.Prelude.{None, Option, Some, if◌then◌else◌, nat_lt, ℕ, ◌+◌, ◌==◌, ◌||◌, ◌≡◌}
use Rattle.c_handles.specs.Owned.{Keeps}
use Rattle.nvme_model.specs.declared.array.Range.{Range}
use Rattle.nvme_model.specs.declared.config.ConfigNumbers.{ConfigNumbers}
use Rattle.work_queue.specs.declared.engine.Engine.{Engine}
use Rattle.c_handles.specs.Disks.{disk_config, disk_engine, disk_slots}
use Rattle.c_handles.specs.Making.{HasGiven, IsNewDriver}
use Rattle.c_handles.specs.declared.disk.Disk.{Disk}
use Rattle.slot_host.specs.SlotHosts.{IsHostOver}
use Rattle.vandrexu_c.specs.HostMaking.{IsGiven, IsNotGiven}
use Rattle.vandrexu_c.specs.SlotStates.{DiskSlots}

-- the blocks of so many slots from block `first` on, where there is one, and none is behind block 65,535
abbrev pub given_area : ℕ → ℕ → Option Range
given_area first count =
    if (count == 0) || nat_lt 65536 (first + count) then None else Some (record { slba = first; blocks = count })

-- a host with a new driver and these slots, which has nothing at any of them, no call, and took nothing over
pub record IsNewSlotHost (eng : Engine) (c : ConfigNumbers) (number queue : ℕ) (slots : Range) (h : DiskSlots)
    : Type 0 where
  pub driver : IsNewDriver eng c number queue slots h.driver
  pub over : IsHostOver h.driver h

-- A host was made with one of the passes, or it is told why not.
pub record MakesSlotHost (d e : Disk) (number queue told : ℕ) (made : Option DiskSlots) : Type 0 where
  pub same : HasGiven d e
  pub done : told ≡ 0 →
      Keeps made (IsNewSlotHost (disk_engine d) (disk_config d) number queue (disk_slots d))
      × IsGiven d e number queue
  pub failed : (told ≡ 0 → ⊥) → (made ≡ None) × IsNotGiven d e number queue told
