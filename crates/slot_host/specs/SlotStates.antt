-- What a slot host is: what it holds, what its call is, and what always is so of it.
use Rattle.std.specs.Prelude.{Bool, List, Some, false, length, slice_get, true, ℕ, ◌≡◌}
use Rattle.driver_cas.specs.Drivers.{area_of, host_of}
use Rattle.driver_cas.specs.declared.driver.Driver.{Driver}
use Rattle.driver_cas.specs.declared.port.Port.{Ghosts}
use Rattle.slot_alloc.specs.Areas.{area, slot_of}
use Rattle.slot_alloc.specs.Claims.{IsClaimingOf, IsHeldBy, IsReleasingOf, IsUnreleased}
use Rattle.slot_alloc.specs.SlotRules.{KeepsSlotRules, ReleasesDrawn}
use Rattle.slot_alloc.specs.declared.slots.Slots.{Slots}
use Rattle.slot_takeover.specs.Holders.{IsReadingOf}
use Rattle.slot_takeover.specs.Takeovers.{HoldsTaken, IsTakingOverOf, slot_held}
use Rattle.slot_host.specs.declared.hold.Hold.{Hold}
use Rattle.slot_host.specs.declared.under_way.UnderWay.{UnderWay}

-- a driver, its slots, what the host has at each, its call, and whether it has begun a takeover
pub record SlotState (P : Type 0) (g : Ghosts P) : Type 0 where
  pub driver : Driver P g
  pub slots : Slots
  pub holds : List Hold
  pub under_way : UnderWay P g
  pub took_over : Bool

module _ {P : Type 0} {g : Ghosts P} where
  -- What the host has at slot i is so by its driver's log: a slot that it claimed is believed, and one that it took
  -- over was taken.
  abbrev pub IsHoldAt : Driver P g → Bool → ℕ → Hold → Type 0
  IsHoldAt d took i Hold.Nothing = Unit {0}
  IsHoldAt d took i (Hold.Claimed k) = (slot_of k.claim ≡ i) × IsHeldBy d k.claim
  IsHoldAt d took i (Hold.TakenOver k) = (slot_held k.held ≡ i) × (took ≡ true) × HoldsTaken d k.held

  -- the call is one of the driver's, and no release of the name of a claim was published
  abbrev pub IsUnderWay : Driver P g → Bool → UnderWay P g → Type 0
  IsUnderWay d took UnderWay.Nothing = Unit {0}
  IsUnderWay d took (UnderWay.Claim k) = IsClaimingOf d k × IsUnreleased d k
  IsUnderWay d took (UnderWay.Release k) = IsReleasingOf d k
  IsUnderWay d took (UnderWay.Takeover k) = (took ≡ true) × IsTakingOverOf d k
  IsUnderWay d took (UnderWay.Holder k) = IsReadingOf d k

  -- each hold is one at its place
  abbrev pub AreHolds : Driver P g → Bool → List Hold → Type 0
  AreHolds d took holds = (i : ℕ) (k : Hold) → slice_get holds i ≡ Some k → IsHoldAt d took i k

  -- What always is so of a slot host: each hold and the call are the driver's, and it released no name under a serial
  -- that it hasn't drawn. Until the first takeover its driver keeps the rules of slots.
  pub record KeepsSlots (d : Driver P g) (number : ℕ) (slots : Slots) (holds : List Hold) (u : UnderWay P g)
      (took : Bool)
      : Type 0 where
    pub named : number ≡ host_of d
    pub area_is : area_of d ≡ area slots
    pub count : length holds ≡ (area slots).blocks
    pub holds_are : AreHolds d took holds
    pub call : IsUnderWay d took u
    pub drawn : ReleasesDrawn d
    pub rules : took ≡ false → KeepsSlotRules d

  -- no call is under way, and the host has nothing at slot i
  pub record IsEmptied (h : SlotState P g) (i : ℕ) : Type 0 where
    pub idle : h.under_way ≡ UnderWay.Nothing
    pub nothing : slice_get h.holds i ≡ Some Hold.Nothing
