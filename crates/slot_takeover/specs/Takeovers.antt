-- What contracts say of takeovers that were begun, and of slots that were taken over.
use Rattle.std.specs.Prelude.{Err, List, None, Ok, Option, Result, Some, false, suc, true, ℕ, ◌<◌, ◌==◌}
use Rattle.std.specs.Prelude.{◌≡◌, ◌≤◌}
use Rattle.nvme_model.specs.Slots.{Name, slot_block}
use Rattle.nvme_model.specs.declared.operation.Op.{Op}
use Rattle.nvme_model.specs.declared.submission.Submission.{Submission}
use Rattle.driver_calls.specs.Entries.{IsBatch}
use Rattle.driver_calls.specs.Says.{IsCallIn}
use Rattle.driver_calls.specs.declared.event.PortEvent.{PortEvent}
use Rattle.driver_calls.specs.declared.request.CallData.{CallData}
use Rattle.driver_cas.specs.Drivers.{IsCallOf, area_of, made, number_of, serial_of}
use Rattle.driver_cas.specs.SlotStarts.{IsReleaseStart}
use Rattle.driver_cas.specs.TakeoverStarts.{IsTakeoverStart}
use Rattle.driver_cas.specs.declared.call.Call.{Call}
use Rattle.driver_cas.specs.declared.driver.Driver.{Driver}
use Rattle.driver_cas.specs.declared.fault.Fault.{Fault}
use Rattle.driver_cas.specs.declared.port.Port.{Ghosts}
use Rattle.slot_alloc.specs.Areas.{block_of}
use Rattle.slot_alloc.specs.SlotRules.{ReleasedName, own_name}
use Rattle.slot_alloc.specs.declared.release.Releasing.{Releasing}
use Rattle.slot_log_laws.specs.Calls.{IsName, IsSentAs}
use Rattle.slot_log_laws.specs.Swaps.{log_success}
use Rattle.slot_takeover.specs.declared.held.HeldSlot.{HeldSlot}
use Rattle.slot_takeover.specs.declared.taking.TakingOver.{TakingOver}

-- the slot that was taken over
abbrev pub slot_held : HeldSlot → ℕ
slot_held h = h.slot

-- the serial of its takeover
abbrev pub held_serial : HeldSlot → ℕ
held_serial h = h.serial

-- the call of a takeover
abbrev pub takeover_call : {P : Type 0} → TakingOver P → Call P
takeover_call k = k.call

-- the two entries of a takeover of the slot at block l from a dead name for another
abbrev pub IsTakeoverBatch : ℕ → ℕ → ℕ → Name → Name → List Submission → Type 0
IsTakeoverBatch l first second dead n batch =
    IsBatch Op.Pair l 1 first second (CallData.Two (slot_block dead) (slot_block n)) batch

-- The call with these CIDs, whose first entry is entry j of submission queue q, takes the slot at block l over from the
-- dead name for the other, which is of another host.
pub record IsTakeoverIn (log : List PortEvent) (q first second j l : ℕ) (dead n : Name) : Type 0 where
  pub dead_name : IsName dead
  pub name : IsName n
  pub apart : (dead.host == n.host) ≡ false
  pub batch : List Submission
  pub is : IsTakeoverBatch l first second dead n batch
  pub sent_as : IsSentAs log q j batch
  pub call : IsCallIn log q Op.Pair first second j

module _ {P : Type 0} {g : Ghosts P} where
  -- The driver began the takeover, which hasn't ended.
  pub record IsTakingOverOf (d : Driver P g) (k : TakingOver P) : Type 0 where
    pub of : IsCallOf d k.call
    pub does : k.call.op ≡ Op.Pair
    pub inside : k.slot < (area_of d).blocks
    pub drawn : k.serial ≤ serial_of d
    pub takeover : IsTakeoverIn (made d) k.call.queue k.call.first k.call.second (number_of d k.call)
        (block_of (area_of d) k.slot) k.dead (own_name d k.serial)

  -- the takeover of slot i from the dead name is begun, or nothing has changed and it is told why
  abbrev pub IsTakeoverBegun : Driver P g → Driver P g → ℕ → Name → Result (TakingOver P) Fault → Type 0
  IsTakeoverBegun d e i dead (Ok k) =
      (k.slot ≡ i) × (k.dead ≡ dead)
      × IsTakeoverStart d e (block_of (area_of d) i) dead.host dead.serial (Ok (k.call, k.serial))
  IsTakeoverBegun d e i dead (Err f) = IsTakeoverStart d e (block_of (area_of d) i) dead.host dead.serial (Err f)

  -- By its log the driver took this slot over, under this serial: its takeover was answered by success.
  pub record HoldsTaken (d : Driver P g) (h : HeldSlot) : Type 0 where
    pub inside : slot_held h < (area_of d).blocks
    pub drawn : held_serial h ≤ serial_of d
    pub queue : ℕ
    pub first : ℕ
    pub second : ℕ
    pub number : ℕ
    pub dead : Name
    pub batch : List Submission
    pub name : IsName (own_name d (held_serial h))
    pub dead_name : IsName dead
    pub apart : (dead.host == (own_name d (held_serial h)).host) ≡ false
    pub is : IsTakeoverBatch (block_of (area_of d) (slot_held h)) first second dead (own_name d (held_serial h)) batch
    pub sent_as : IsSentAs (made d) queue number batch
    pub success : log_success (made d) queue (suc number) ≡ true

  -- the name that is given back, where it is
  abbrev pub given_back : Driver P g → HeldSlot → Result (Releasing P) (HeldSlot × Fault) → Option ReleasedName
  given_back d h (Ok k) = Some (block_of (area_of d) (slot_held h), own_name d (held_serial h))
  given_back d h (Err x) = None

  -- the release of the slot is begun, or the slot comes back and it is told why
  abbrev pub IsGivingBackBegun : Driver P g → Driver P g → HeldSlot → Result (Releasing P) (HeldSlot × Fault) → Type 0
  IsGivingBackBegun d e h (Ok k) = (k.slot ≡ slot_held h) × (k.serial ≡ held_serial h)
      × IsReleaseStart d e (block_of (area_of d) (slot_held h)) (held_serial h) (Ok k.call)
  IsGivingBackBegun d e h (Err x) =
      (x.0 ≡ h) × IsReleaseStart d e (block_of (area_of d) (slot_held h)) (held_serial h) (Err x.1)
