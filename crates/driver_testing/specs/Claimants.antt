-- What contracts say of a host that claims slots.
use Rattle.std.specs.Prelude.{◌≡◌}
use Rattle.driver_cas.specs.Drivers.{area_of}
use Rattle.driver_testing.specs.Hosts.{IsTestHost}
use Rattle.shared_system.specs.declared.plain.PlainSystem.{PlainSystem}
use Rattle.driver_testing.specs.declared.host.TestHost.{TestHost}
use Rattle.slot_alloc.specs.Areas.{area}
use Rattle.slot_alloc.specs.SlotRules.{KeepsSlotRules}
use Rattle.slot_alloc.specs.Claims.{IsClaimingOf, IsHeldBy, IsReleasingOf, IsUnreleased}
use Rattle.slot_alloc.specs.declared.slots.Slots.{Slots}
use Rattle.driver_testing.specs.declared.claimant.Claimant.{Claimant}
use Rattle.driver_testing.specs.declared.claimant.ClaimantStage.{ClaimantStage}

-- It is a host of the system with these slots, and its driver keeps the rules of slots.
pub record IsClaimantReady (b : PlainSystem) (s : Slots) (h : TestHost) : Type 0 where
  pub host : IsTestHost b h
  pub area_is : area_of h.driver ≡ area s
  pub slot_rules : KeepsSlotRules h.driver

-- what it has begun is its driver's
abbrev pub IsClaimantBegun : TestHost → ClaimantStage → Type 0
IsClaimantBegun h ClaimantStage.Idle = Unit {0}
IsClaimantBegun h (ClaimantStage.Claiming k) = IsClaimingOf h.driver k × IsUnreleased h.driver k
IsClaimantBegun h (ClaimantStage.Holding k) = IsHeldBy h.driver k.claim
IsClaimantBegun h (ClaimantStage.Releasing k) = IsReleasingOf h.driver k

-- a host that claims: it is ready, and what it has begun is its driver's
pub record IsClaimant (b : PlainSystem) (s : Slots) (c : Claimant) : Type 0 where
  pub ready : IsClaimantReady b s c.host
  pub begun : IsClaimantBegun c.host c.stage
