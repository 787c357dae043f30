-- Drivers of one engine that share their slots.
use Rattle.std.specs.Prelude.{[], true, ℕ, ◌<◌, ◌≡◌, ◌≢◌, ◌≤◌, ◌⊎◌}
use Rattle.nvme_model.specs.Passes.{IsBeginning, SharedPast, places}
use Rattle.nvme_model.specs.declared.array.Range.{Range}
use Rattle.nvme_model.specs.declared.config.ConfigNumbers.{ConfigNumbers}
use Rattle.meet_lock.specs.Lock.{AreOfPasses}
use Rattle.meet_lock.specs.Passes.{mine, seen}
use Rattle.driver_cas.specs.Drivers.{area_of, host_of}
use Rattle.driver_cas.specs.Ports.{view_of}
use Rattle.driver_cas.specs.declared.driver.Driver.{Driver}
use Rattle.driver_cas.specs.declared.port.Port.{Ghosts}
use Rattle.driver_cas.specs.declared.shared_port.SharedPort.{SharedPort}
use Rattle.slot_alloc.specs.SlotRules.{KeepsSlotRules}
use Rattle.shared_system.specs.Servers.{serves}

module _ {g : Ghosts SharedPort} where
  -- A driver that keeps the rules of slots, whose port had seen nothing when the driver was made, of this configuration
  -- and slot area, with these numbers: of its port's pass, of its completion queue, and of its host.
  pub record IsHost (c : ConfigNumbers) (slots : Range) (pass queue host : ℕ) (d : Driver SharedPort g) : Type 0 where
    pub first : seen d.began.value.pass ≡ []
    pub slot_rules : KeepsSlotRules d
    pub config : (view_of d.port).config ≡ c
    pub area : area_of d ≡ slots
    pub pass_is : (view_of d.port).pass ≡ pass
    pub queue_is : (view_of d.port).queue ≡ queue
    pub host_is : host_of d ≡ host

  -- Its port had seen nothing when the driver was made; it keeps the rules of slots; and it has seen this history and
  -- maybe more, in which all stands that its port's pass did.
  pub record IsHostIn (d : Driver SharedPort g) (met : SharedPast) : Type 0 where
    pub first : seen d.began.value.pass ≡ []
    pub slot_rules : KeepsSlotRules d
    pub begins : IsBeginning met (view_of d.port).seen
    pub whole : places (view_of d.port).pass met ≡ mine d.port.pass

  -- Two drivers are hosts in this history, of unlike numbers, with passes and completion queues of their own, over one
  -- slot area. So many passes made it, and each but these two serves.
  pub record AreTwoHosts (passes : ℕ) (a b : Driver SharedPort g) (met : SharedPast) : Type 0 where
    pub one : IsHostIn a met
    pub two : IsHostIn b met
    pub config : (view_of b.port).config ≡ (view_of a.port).config
    pub passes_apart : (view_of a.port).pass ≢ (view_of b.port).pass
    pub area : area_of b ≡ area_of a
    pub hosts : host_of a ≢ host_of b
    pub queues : (view_of a.port).queue ≢ (view_of b.port).queue
    pub of_passes : AreOfPasses passes met
    pub others : (k : ℕ) → 0 < k → k ≤ passes
        → (k ≡ (view_of a.port).pass) ⊎ ((k ≡ (view_of b.port).pass) ⊎ (serves k met ≡ true))
