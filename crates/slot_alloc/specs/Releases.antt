-- What contracts say of releases.
use Rattle.std.specs.Prelude.{Err, None, Ok, Option, Result, Some, ◌≡◌, ◌⊎◌}
use Rattle.nvme_model.specs.Statuses.{compare_failure}
use Rattle.nvme_model.specs.declared.status.Status.{Status}
use Rattle.driver_calls.specs.declared.reply.Reply.{Reply}
use Rattle.driver_cas.specs.Drivers.{SaysOfPort, answer_to, area_of}
use Rattle.driver_cas.specs.SlotStarts.{IsReleaseStart}
use Rattle.driver_cas.specs.declared.call.Call.{Call}
use Rattle.driver_cas.specs.declared.driver.Driver.{Driver}
use Rattle.driver_cas.specs.declared.fault.Fault.{Fault}
use Rattle.driver_cas.specs.declared.port.Port.{Ghosts}
use Rattle.slot_alloc.specs.Areas.{block_of, claim_serial, slot_of}
use Rattle.slot_alloc.specs.SlotRules.{ReleasedName, own_name}
use Rattle.slot_alloc.specs.Claims.{IsReleasingOf}
use Rattle.slot_alloc.specs.declared.claim.Claim.{Claim}
use Rattle.slot_alloc.specs.declared.progress.Released.{Released}
use Rattle.slot_alloc.specs.declared.release.Releasing.{Releasing}

module _ {P : Type 0} where
  -- the fault for which a poll of a release is put off, if for one
  abbrev pub later_released : Released P → Option Fault
  later_released (Released.Later f j) = Some f
  later_released _ = None

module _ {P : Type 0} {g : Ghosts P} where
  -- the name that is released, where it is
  abbrev pub released_by : Driver P g → Claim → Result (Releasing P) (Claim × Fault) → Option ReleasedName
  released_by d c (Ok k) = Some (block_of (area_of d) (slot_of c), own_name d (claim_serial c))
  released_by d c (Err x) = None

  -- the release of the claim's slot is begun, or the claim comes back and it is told why
  abbrev pub IsReleaseBegun : Driver P g → Driver P g → Claim → Result (Releasing P) (Claim × Fault) → Type 0
  IsReleaseBegun d e c (Ok k) = (k.slot ≡ slot_of c) × (k.serial ≡ claim_serial c)
      × IsReleaseStart d e (block_of (area_of d) (slot_of c)) (claim_serial c) (Ok k.call)
  IsReleaseBegun d e c (Err x) =
      (x.0 ≡ c) × IsReleaseStart d e (block_of (area_of d) (slot_of c)) (claim_serial c) (Err x.1)

  -- the call was answered so, which says what it says
  abbrev pub IsCallAnswered : Driver P g → Call P → Result Reply Status → Type 0
  IsCallAnswered e call r = (answer_to e call ≡ Some r) × SaysOfPort e call (Some r)

  -- what `poll_release` gives
  abbrev pub IsReleasePolled : Driver P g → Releasing P → Released P → Type 0
  IsReleasePolled e k (Released.Pending j) = (j ≡ k) × IsReleasingOf e j × (answer_to e k.call ≡ None)
  IsReleasePolled e k (Released.Later f j) =
      (j ≡ k) × IsReleasingOf e j × ((f ≡ Fault.Busy) ⊎ (f ≡ Fault.NoMemory)) × (answer_to e k.call ≡ None)
  IsReleasePolled e k Released.Released = IsCallAnswered e k.call (Ok Reply.Swapped)
  IsReleasePolled e k (Released.Failed (Fault.Status s)) =
      IsCallAnswered e k.call (Err s) ⊎ ((s ≡ compare_failure) × IsCallAnswered e k.call (Ok Reply.Differs))
  IsReleasePolled e k (Released.Failed _) = ⊥
