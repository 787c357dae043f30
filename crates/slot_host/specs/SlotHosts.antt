-- A slot host, as contracts see it, and one that was made just now.
use Rattle.std.specs.Prelude.{All, List, false, length, ℕ, ◌≡◌}
use Rattle.nvme_model.specs.declared.array.Range.{Range}
use Rattle.driver_cas.specs.Drivers.{area_of, before}
use Rattle.driver_cas.specs.declared.driver.Driver.{Driver}
use Rattle.driver_cas.specs.declared.port.Port.{Ghosts}
use Rattle.slot_alloc.specs.Areas.{area}
use Rattle.slot_host.specs.SlotStates.{KeepsSlots, SlotState}
use Rattle.slot_host.specs.declared.hold.Hold.{Hold}
use Rattle.slot_host.specs.declared.slot_host.SlotHost.{SlotHost}
use Rattle.slot_host.specs.declared.under_way.UnderWay.{UnderWay}

-- so many places, with nothing in them
abbrev pub AreNothing : List Hold → ℕ → Type 0
AreNothing holds count = (length holds ≡ count) × All (λ k. k ≡ Hold.Nothing) holds

module _ {P : Type 0} {g : Ghosts P} where
  -- what the host is
  abbrev pub slot_state : SlotHost P g → SlotState P g
  slot_state h =
      record {
        driver = h.driver;
        slots = h.slots;
        holds = h.holds.items;
        under_way = h.under_way;
        took_over = h.took_over.value;
      }

  -- what always is so of it
  abbrev pub IsKept : SlotHost P g → Type 0
  IsKept h = KeepsSlots h.driver h.number h.slots h.holds.items h.under_way h.took_over.value

  -- its port did nothing since the driver was made
  abbrev pub DidNothing : Driver P g → Type 0
  DidNothing d = g.log d.port ≡ before d

  -- a host over this driver, with its slots: it has nothing at any of them, no call, and took nothing over
  pub record IsHostOver (d : Driver P g) (h : SlotState P g) : Type 0 where
    pub driver_is : h.driver ≡ d
    pub slots_are : area h.slots ≡ area_of d
    pub nothing : AreNothing h.holds (area_of d).blocks
    pub no_call : h.under_way ≡ UnderWay.Nothing
    pub fresh : h.took_over ≡ false
