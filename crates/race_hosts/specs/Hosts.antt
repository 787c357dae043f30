-- What contracts say of a host.
use Rattle.std.specs.Prelude.{Bool, Contains, List, length, nat_le, true, ℕ, ◌&&◌, ◌-◌, ◌<◌, ◌==◌, ◌≡◌, ◌≤◌}
use Rattle.nvme_model.specs.Config.{completion_queue}
use Rattle.nvme_model.specs.declared.config.ConfigNumbers.{ConfigNumbers}
use Rattle.work_queue.specs.Engines as engine
use Rattle.shared_system.specs.Callers.{IsPlaceAt}
use Rattle.shared_system.specs.declared.system.System.{System}
use Rattle.driver_cas.specs.Drivers.{HasSettings, area_of, port_of}
use Rattle.driver_cas.specs.Ports.{PortFollows, pass_of, queue_of}
use Rattle.slot_alloc.specs.Areas.{area}
use Rattle.slot_alloc.specs.Counts.{claims_made}
use Rattle.slot_alloc.specs.SlotRules.{KeepsSlotRules}
use Rattle.race_hosts.specs.declared.owned.Host.{Host}

-- the submission queue is there, and uses this completion queue
abbrev pub uses : ConfigNumbers → ℕ → ℕ → Bool
uses c queue n = nat_le 1 n && nat_le n c.pairs && (completion_queue c n == queue)

-- each submission queue that uses this completion queue is one of these
abbrev pub HasEach : ConfigNumbers → ℕ → List ℕ → Type 0
HasEach c queue qs = (n : ℕ) → uses c queue n ≡ true → Contains qs n

-- each of those below m
abbrev pub HasEachBelow : ConfigNumbers → ℕ → ℕ → List ℕ → Type 0
HasEachBelow c queue m qs = (n : ℕ) → uses c queue n ≡ true → n < m → Contains qs n

-- the completion queue of the port of a host's driver
abbrev pub port_queue : Host → ℕ
port_queue h = queue_of (port_of h.driver)

-- how many claims of the first slot a host's driver published: each of its rounds begins with one, and has no other
abbrev pub rounds_begun : Host → ℕ
rounds_begun h = claims_made h.driver 0

module _ {G : Type 0} where
  -- Its driver is of the system's controller and has these slots, whose discipline it has kept, and its place is one of
  -- the notices of a completion queue.
  pub record IsHosting (system : System G) (h : Host) : Type 0 where
    pub of : engine.IsPassOfEngine system.engine (pass_of (port_of h.driver))
    pub slots : area_of h.driver ≡ area h.slots
    pub slot_rules : KeepsSlotRules h.driver
    pub queue : (1 ≤ h.queue) × (h.queue ≤ length system.notices.items)
    pub place : IsPlaceAt system (h.queue - 1) h.notices

  -- It is so later, with the same settings, and its port is what it was at a later time: what its pass has seen begins
  -- with what it had.
  pub record HostContinues (system : System G) (h k : Host) : Type 0 where
    pub of : IsHosting system k
    pub settings : HasSettings h.driver k.driver
    pub slots : k.slots ≡ h.slots
    pub queue : k.queue ≡ h.queue
    pub later : PortFollows (port_of h.driver) (port_of k.driver)
