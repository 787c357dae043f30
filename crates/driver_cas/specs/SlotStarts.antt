-- What contracts say of the start of a claim and of a release.
use Rattle.std.specs.Prelude.{Err, Ok, Result, suc, ℕ, ◌≡◌, ◌≢◌, ◌⊎◌}
use Rattle.nvme_model.specs.Array.{zeros}
use Rattle.nvme_model.specs.Slots.{slot_block}
use Rattle.nvme_model.specs.declared.operation.Op.{Op}
use Rattle.driver_calls.specs.declared.request.CallData.{CallData}
use Rattle.driver_calls.specs.declared.request.Request.{Request}
use Rattle.driver_cas.specs.Starts.{IsAsBefore, IsStarted}
use Rattle.driver_cas.specs.Tries.{IsTryBegun, IsPortFault}
use Rattle.driver_cas.specs.declared.call.Call.{Call}
use Rattle.driver_cas.specs.declared.driver.Driver.{Driver}
use Rattle.driver_cas.specs.declared.fault.Fault.{Fault}
use Rattle.driver_cas.specs.declared.port.Port.{Ghosts}

-- a fused pair on one block
abbrev pub swap_request : ℕ → Request
swap_request lba = record { op = Op.Pair; slba = lba; blocks = 1 }

-- the data of a claim of this name, and of its release
abbrev pub claim_data : ℕ → ℕ → CallData
claim_data host serial = CallData.Two zeros (slot_block (record { host = host; serial = serial }))

-- the data of a release: the claim's name, and zeros
abbrev pub release_data : ℕ → ℕ → CallData
release_data host serial = CallData.Two (slot_block (record { host = host; serial = serial })) zeros

-- the last serial that a driver draws
abbrev pub last_serial : ℕ
last_serial = 18446744073709551615

module _ {P : Type 0} {g : Ghosts P} where
  -- The driver has drawn the last serial, and only then NoSerial is answered. Else a port's fault is.
  abbrev pub IsClaimFault : Driver P g → Driver P g → ℕ → Fault → Type 0
  IsClaimFault d e lba f =
      ((f ≡ Fault.NoSerial) × (d.serial ≡ last_serial))
      ⊎ ((d.serial ≢ last_serial) × IsPortFault d e (swap_request lba) (claim_data d.host (suc d.serial)) f)

  -- The claim is begun under the next serial, which is drawn. After any fault the driver is as before, and nothing was
  -- published.
  abbrev pub IsClaimStart : Driver P g → Driver P g → ℕ → Result (Call P × ℕ) Fault → Type 0
  IsClaimStart d e lba (Ok r) =
      (r.1 ≡ suc d.serial) × (e.serial ≡ r.1) × IsStarted d e r.0 Op.Pair lba 1 (claim_data d.host r.1)
  IsClaimStart d e lba (Err f) = (e.serial ≡ d.serial) × IsAsBefore d e × IsClaimFault d e lba f

  -- The release of this name is begun. After any fault the driver is as before, and nothing was published.
  abbrev pub IsReleaseStart : Driver P g → Driver P g → ℕ → ℕ → Result (Call P) Fault → Type 0
  IsReleaseStart d e lba serial r = IsTryBegun d e (swap_request lba) (release_data d.host serial) r
