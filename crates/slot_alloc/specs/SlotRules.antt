-- A driver whose log keeps the discipline of the slot area, and what it goes on to believe.
use Rattle.std.specs.Prelude.{Bool, List, None, Option, Some, false, not, true, ℕ, ◌&&◌, ◌++◌, ◌<◌, ◌==◌, ◌≡◌, ◌≤◌}
use Rattle.nvme_model.specs.Array.{has_block}
use Rattle.nvme_model.specs.Slots.{Name, same_name}
use Rattle.nvme_model.specs.declared.array.Range.{Range}
use Rattle.driver_calls.specs.declared.event.PortEvent.{PortEvent}
use Rattle.driver_cas.specs.Drivers.{HasSettings, area_of, host_of, made, serial_of}
use Rattle.driver_cas.specs.declared.driver.Driver.{Driver}
use Rattle.driver_cas.specs.declared.port.Port.{Ghosts}
use Rattle.slot_log_laws.specs.SlotRules.{keeps_slot_rules}
use Rattle.slot_log_laws.specs.Swaps.{log_believed, log_released}

-- the slot of a release, by its block, and the name that is released
abbrev pub ReleasedName : Type 0
ReleasedName = ℕ × Name

-- the name of the slot at this block isn't what was released, if anything was
abbrev pub is_another : Option ReleasedName → ℕ → Name → Bool
is_another None l n = true
is_another (Some r) l n = not ((r.0 == l) && same_name r.1 n)

-- A log has gone on: what it believed of a slot of the area it goes on to believe, and what wasn't released isn't, but
-- for this release.
pub record LogContinues (slots : Range) (before after : List PortEvent) (released : Option ReleasedName) : Type 0 where
  pub log : List PortEvent
  pub more : after ≡ log ++ before
  pub believed : (l : ℕ) (n : Name) → has_block slots l ≡ true → is_another released l n ≡ true →
      log_believed before l n ≡ true → log_believed after l n ≡ true
  pub unreleased : (l : ℕ) (n : Name) → has_block slots l ≡ true → is_another released l n ≡ true →
      log_released before l n ≡ false → log_released after l n ≡ false

module _ {P : Type 0} {g : Ghosts P} where
  -- the name of this driver's claim with this serial
  abbrev pub own_name : Driver P g → ℕ → Name
  own_name d serial = record { host = host_of d; serial = serial }

  -- What the driver published since it was made keeps the discipline of its slot area by what its log says, with
  -- serials up to its last.
  abbrev pub KeepsSlotRules : Driver P g → Type 0
  KeepsSlotRules d = keeps_slot_rules (area_of d) (host_of d) (serial_of d) (made d) ≡ true

  -- No name of this driver's host under a serial above its last was released from the slot area.
  abbrev pub ReleasesDrawn : Driver P g → Type 0
  ReleasesDrawn d = (l serial : ℕ) → has_block (area_of d) l ≡ true → serial_of d < serial →
      log_released (made d) l (own_name d serial) ≡ false

  -- the same driver at a later moment
  pub record DriverContinues (d e : Driver P g) (released : Option ReleasedName) : Type 0 where
    pub settings : HasSettings d e
    pub drawn : serial_of d ≤ serial_of e
    pub later : g.follows d.port e.port
    pub log : LogContinues (area_of d) (made d) (made e) released
