-- What contracts say of claims and releases.
use Rattle.std.specs.Prelude.{Bool, List, None, Ok, Option, Result, Some, [], false, length, slice_get, true, ℕ, ◌++◌}
use Rattle.std.specs.Prelude.{◌<◌, ◌∷◌, ◌≡◌, ◌≤◌}
use Rattle.nvme_model.specs.declared.operation.Op.{Op}
use Rattle.nvme_model.specs.declared.status.Status.{Status}
use Rattle.driver_calls.specs.declared.reply.Reply.{Reply}
use Rattle.driver_cas.specs.Drivers.{HasSettings, IsCallOf, SaysOfPort, answer_to, area_of, made, number_of, serial_of}
use Rattle.driver_cas.specs.declared.call.Call.{Call}
use Rattle.driver_cas.specs.declared.driver.Driver.{Driver}
use Rattle.driver_cas.specs.declared.port.Port.{Ghosts}
use Rattle.slot_alloc.specs.Areas.{area, block_of, claim_serial, slot_of}
use Rattle.slot_alloc.specs.SlotRules.{ReleasedName, is_another, own_name}
use Rattle.slot_alloc.specs.declared.claim.Claim.{Claim}
use Rattle.slot_alloc.specs.declared.claiming.Claiming.{Claiming}
use Rattle.slot_alloc.specs.declared.claiming.Lower.{And', Lower, Nothing}
use Rattle.slot_alloc.specs.declared.claiming.Reach.{Reach}
use Rattle.slot_alloc.specs.declared.claiming.ClaimStage.{ClaimStage}
use Rattle.slot_alloc.specs.declared.release.Releasing.{Releasing}
use Rattle.slot_log_laws.specs.Calls.{IsClaimIn, IsName, IsReleaseIn}
use Rattle.slot_log_laws.specs.Swaps.{log_believed, log_released}

-- the call of a release
abbrev pub release_call : {P : Type 0} → Releasing P → Call P
release_call k = k.call

-- the claims that were kept, each by its call and its serial, the first begun first
abbrev pub claims_in : {P : Type 0} → Lower P → List (Call P × ℕ)
claims_in Nothing = []
claims_in (And' marker lower call serial) = claims_in lower ++ (call.value, serial) ∷ []

module _ {P : Type 0} {g : Ghosts P} where
  -- By its log the driver's host holds the slot, under this claim's serial: its claim was answered by success, and no
  -- release of its name was published.
  pub record IsHeldBy (d : Driver P g) (c : Claim) : Type 0 where
    pub inside : slot_of c < (area_of d).blocks
    pub name : IsName (own_name d (claim_serial c))
    pub drawn : claim_serial c ≤ serial_of d
    pub believed : log_believed (made d) (block_of (area_of d) (slot_of c)) (own_name d (claim_serial c)) ≡ true

  -- The call claims the slot at this block under this serial, and isn't answered.
  pub record IsAsking (d : Driver P g) (lba : ℕ) (call : Call P) (serial : ℕ) : Type 0 where
    pub of : IsCallOf d call
    pub does : call.op ≡ Op.Pair
    pub drawn : serial ≤ serial_of d
    pub claim : IsClaimIn (made d) call.queue call.first call.second (number_of d call) lba (own_name d serial)

  -- the claim of the slot at hand is begun, or is due, where any slot will do
  abbrev pub IsAtSlot : Driver P g → Driver P g → ℕ → Reach → ClaimStage P → Type 0
  IsAtSlot d began lba reach (ClaimStage.Asked call serial) = IsAsking d lba call serial
      × g.follows began.port call.start.value
  IsAtSlot d began lba reach ClaimStage.Due = reach ≡ Reach.Any

  -- Since this moment the driver began this claim of the slot at this block, under this serial, which was answered so,
  -- and at the moment of its answer this said what it says.
  pub record ClaimSays (d began : Driver P g) (lba : ℕ) (call : Call P) (serial : ℕ) (r : Result Reply Status)
      : Type 0 where
    pub at : Driver P g
    pub same : HasSettings d at
    pub begun : g.follows began.port call.start.value
    pub later : g.follows at.port d.port
    pub does : call.op ≡ Op.Pair
    pub claim : IsClaimIn (made at) call.queue call.first call.second (number_of at call) lba (own_name at serial)
    pub answer : answer_to at call ≡ Some r
    pub says : SaysOfPort at call (Some r)

  -- By the driver's log a claim of this name was answered by success: it believes the name, unless a release of it was
  -- published.
  pub record IsWonBy (d : Driver P g) (c : Claim) : Type 0 where
    pub inside : slot_of c < (area_of d).blocks
    pub name : IsName (own_name d (claim_serial c))
    pub drawn : claim_serial c ≤ serial_of d
    pub believed : log_released (made d) (block_of (area_of d) (slot_of c)) (own_name d (claim_serial c)) ≡ false
        → log_believed (made d) (block_of (area_of d) (slot_of c)) (own_name d (claim_serial c)) ≡ true

  -- So many claims, one of each slot from 0 on, were answered that somebody else has the slot.
  pub record AreTaken (d began : Driver P g) (n : ℕ) (claims : List (Call P × ℕ)) : Type 0 where
    pub count : length claims ≡ n
    pub says : (i : ℕ) (c : Call P × ℕ) → slice_get claims i ≡ Some c
        → ClaimSays d began (block_of (area_of d) i) c.0 c.1 (Ok Reply.Differs)

  -- the claims of the slots below the one at hand, that of slot 0 first
  abbrev pub lower_of : Claiming P g → List (Call P × ℕ)
  lower_of k = claims_in k.lower.value

  -- The driver began the claim, which hasn't ended: that of the slot at hand is begun or is due, and where any slot
  -- will do the lower ones were taken.
  pub record IsClaimingOf (d : Driver P g) (k : Claiming P g) : Type 0 where
    pub area_is : area_of d ≡ area k.slots
    pub inside : k.slot < k.slots.count
    pub since : g.follows k.began.value.port d.port
    pub at : IsAtSlot d k.began.value (block_of (area_of d) k.slot) k.reach k.stage
    pub lower : k.reach ≡ Reach.Any → AreTaken d k.began.value k.slot (lower_of k)

  -- no release of the name was published
  abbrev pub IsStageUnreleased : Driver P g → ℕ → ClaimStage P → Type 0
  IsStageUnreleased d lba (ClaimStage.Asked call serial) = log_released (made d) lba (own_name d serial) ≡ false
  IsStageUnreleased d lba ClaimStage.Due = Unit {0}

  -- no release of the name of the claim that is begun, if one is, was published
  abbrev pub IsUnreleased : Driver P g → Claiming P g → Type 0
  IsUnreleased d k = IsStageUnreleased d (block_of (area_of d) k.slot) k.stage

  -- that name isn't what was released, if anything was
  abbrev pub is_other_stage : ReleasedName → Driver P g → ℕ → ClaimStage P → Bool
  is_other_stage r d lba (ClaimStage.Asked call serial) = is_another (Some r) lba (own_name d serial)
  is_other_stage r d lba ClaimStage.Due = true

  -- what was released, if anything was, isn't the name of the claim that is begun
  abbrev pub is_other_claim : Option ReleasedName → Driver P g → Claiming P g → Bool
  is_other_claim None d k = true
  is_other_claim (Some r) d k = is_other_stage r d (block_of (area_of d) k.slot) k.stage

  -- how far a claiming has come
  abbrev pub claim_stage : Claiming P g → ClaimStage P
  claim_stage k = k.stage

  -- the call of the slot at hand, if it is begun, is one of the driver
  abbrev pub IsCallKept : Driver P g → ClaimStage P → Type 0
  IsCallKept d (ClaimStage.Asked call serial) = IsCallOf d call
  IsCallKept d ClaimStage.Due = Unit {0}

  -- The driver began the release of this claim's name, which hasn't ended.
  pub record IsReleasingOf (d : Driver P g) (k : Releasing P) : Type 0 where
    pub of : IsCallOf d k.call
    pub does : k.call.op ≡ Op.Pair
    pub inside : k.slot < (area_of d).blocks
    pub release : IsReleaseIn (made d) k.call.queue k.call.first k.call.second (number_of d k.call)
        (block_of (area_of d) k.slot) (own_name d k.serial)
