-- What contracts say of a slot host whose controller is somewhere else.
use Rattle.std.specs.Prelude.{List, [], ℕ, ◌∷◌, ◌≡◌, ◌≤◌, ◌⊎◌}
use Rattle.nvme_model.specs.declared.array.Range.{Range}
use Rattle.driver_cas.specs.Cids.{held}
use Rattle.driver_cas.specs.Drivers.{area_of, host_of, port_of, queues_used, serial_of}
use Rattle.driver_cas.specs.Starts.{IsUntouched}
use Rattle.driver_cas.specs.declared.driver.Driver.{Driver}
use Rattle.driver_cas.specs.declared.held.CidUse.{CidUse}
use Rattle.remote_host.specs.Queues.{IsEmptyPort}
use Rattle.remote_host.specs.contracts.port.RemotePortPort.TheImpl.{ghosts}
use Rattle.remote_host.specs.declared.port.RemotePort.{RemotePort}
use Rattle.slot_host.specs.SlotHosts.{IsHostOver}
use Rattle.vandrexu_c.specs.Remotes.{AreNumbers, GivesNext, TakesIn}
use Rattle.vandrexu_c.specs.SlotStates.{RemoteSlots}
use Rattle.vandrexu_c.specs.declared.carrying.OutgoingEntry.{OutgoingEntry}

-- A driver of this host on this submission queue, with these slots, which did nothing: nothing is to be carried, all
-- CIDs are free, and it draws the serials above this one.
pub record IsNewRemoteDriver (number queue : ℕ) (slots : Range) (serial : ℕ) (d : Driver RemotePort ghosts)
    : Type 0 where
  pub port : IsEmptyPort (port_of d)
  pub began : d.began.value ≡ d.port
  pub host_is : host_of d ≡ number
  pub area_is : area_of d ≡ slots
  pub serial_is : serial_of d ≡ serial
  pub queues_are : queues_used d ≡ queue ∷ []
  pub free : (q cid : ℕ) → held d.cids q cid ≡ CidUse.Free

-- a host with such a driver, which has no slot, no call, and took nothing over
pub record IsNewRemoteSlots (number queue : ℕ) (slots : Range) (serial : ℕ) (h : RemoteSlots) : Type 0 where
  pub driver : IsNewRemoteDriver number queue slots serial h.driver
  pub over : IsHostOver h.driver h

-- why no host is made: its number is 0; or else no submission queue has the number 0; or else memory was refused
abbrev pub MayRefuseSlots : ℕ → ℕ → ℕ → Type 0
MayRefuseSlots number queue told =
    ((told ≡ 115) × (number ≡ 0))
    ⊎ ((told ≡ 1) × (1 ≤ number) × (queue ≡ 0))
    ⊎ ((told ≡ 11) × AreNumbers number queue)

-- its driver does nothing, and what it has and its call stay
pub record KeepsSlotsAside (h j : RemoteSlots) : Type 0 where
  pub untouched : IsUntouched h.driver j.driver
  pub rest : j ≡ record h { driver = j.driver }

-- the entry that is to be carried next is told, as of a remote host
pub record SlotsGive (h j : RemoteSlots) (told : ℕ) (old new : OutgoingEntry) (room filled : List ℕ)
    : Type 0 where
  pub aside : KeepsSlotsAside h j
  pub next : GivesNext (port_of h.driver) (port_of j.driver) told old new room filled

-- a completion was brought, as to a remote host
pub record SlotsTake (h j : RemoteSlots) (cqe payload : List ℕ) (told : ℕ) : Type 0 where
  pub aside : KeepsSlotsAside h j
  pub takes : TakesIn (port_of h.driver) (port_of j.driver) cqe payload told
