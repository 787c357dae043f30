-- What contracts say of a host of an example.
use Rattle.std.specs.Prelude.{All, length, ◌-◌, ◌≡◌, ◌≤◌}
use Rattle.nvme_model.specs.declared.array.Range.{Range}
use Rattle.nvme_model.specs.declared.config.ConfigNumbers.{ConfigNumbers}
use Rattle.work_queue.specs.Engines as engine
use Rattle.shared_system.specs.Callers.{IsHostOf, IsPlaceAt, IsWorkerOf}
use Rattle.shared_system.specs.declared.system.Callers.{Callers}
use Rattle.shared_system.specs.declared.system.System.{System}
use Rattle.driver_cas.specs.Drivers.{area_of, host_of, port_of}
use Rattle.driver_cas.specs.Ports.{pass_of}
use Rattle.slot_alloc.specs.Areas.{area}
use Rattle.slot_alloc.specs.SlotRules.{KeepsSlotRules}
use Rattle.race_hosts.specs.declared.owned.Host.{Host}

-- the one slot, at block 0
abbrev pub one_slot : Range
one_slot = record { slba = 0; blocks = 1 }

module _ {G : Type 0} where
  -- the passes of workers and hosts that nobody has yet
  pub record AreCallersLeft (system : System G) (c : ConfigNumbers) (h : Callers) : Type 0 where
    pub workers : All (IsWorkerOf system) h.workers.items
    pub hosts : All (IsHostOf system c) h.hosts.items

  -- Its driver is of the system's engine and has the one slot, and its host number is that of its completion queue; and
  -- its pass is one of the queue of notices of that completion queue.
  pub record IsSlotHost (system : System G) (h : Host) : Type 0 where
    pub of : engine.IsPassOfEngine system.engine (pass_of (port_of h.driver))
    pub area_is : area_of h.driver ≡ one_slot
    pub slots : area h.slots ≡ one_slot
    pub host : host_of h.driver ≡ h.queue
    pub queue : (1 ≤ h.queue) × (h.queue ≤ length system.notices.items)
    pub place : IsPlaceAt system (h.queue - 1) h.notices

  -- its driver has kept the rules of slots, too
  pub record IsLockHost (system : System G) (h : Host) : Type 0 where
    pub host : IsSlotHost system h
    pub slot_rules : KeepsSlotRules h.driver
