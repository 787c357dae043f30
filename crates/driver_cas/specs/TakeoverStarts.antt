-- What contracts say of the start of a takeover.
use Rattle.std.specs.Prelude.{Err, Ok, Result, suc, ℕ, ◌≡◌, ◌≢◌, ◌⊎◌}
use Rattle.nvme_model.specs.Slots.{slot_block}
use Rattle.nvme_model.specs.declared.operation.Op.{Op}
use Rattle.driver_calls.specs.declared.request.CallData.{CallData}
use Rattle.driver_cas.specs.SlotStarts.{last_serial, swap_request}
use Rattle.driver_cas.specs.Starts.{IsAsBefore, IsStarted}
use Rattle.driver_cas.specs.Tries.{IsPortFault}
use Rattle.driver_cas.specs.declared.call.Call.{Call}
use Rattle.driver_cas.specs.declared.driver.Driver.{Driver}
use Rattle.driver_cas.specs.declared.fault.Fault.{Fault}
use Rattle.driver_cas.specs.declared.port.Port.{Ghosts}

-- the data of a takeover: the dead host's name, and the name of the host that takes over
abbrev pub takeover_data : ℕ → ℕ → ℕ → ℕ → CallData
takeover_data dead_host dead_serial host serial =
    CallData.Two (slot_block (record { host = dead_host; serial = dead_serial }))
    (slot_block (record { host = host; serial = serial }))

module _ {P : Type 0} {g : Ghosts P} where
  -- The driver has drawn the last serial, and only then NoSerial is answered. Else a port's fault is.
  abbrev pub IsTakeoverFault : Driver P g → Driver P g → ℕ → ℕ → ℕ → Fault → Type 0
  IsTakeoverFault d e lba dead_host dead_serial f =
      ((f ≡ Fault.NoSerial) × (d.serial ≡ last_serial))
      ⊎ ((d.serial ≢ last_serial)
      × IsPortFault d e (swap_request lba) (takeover_data dead_host dead_serial d.host (suc d.serial)) f)

  -- The takeover from the dead host's name is begun under the next serial, which is drawn. After any fault the driver
  -- is as before, and nothing was published.
  abbrev pub IsTakeoverStart : Driver P g → Driver P g → ℕ → ℕ → ℕ → Result (Call P × ℕ) Fault → Type 0
  IsTakeoverStart d e lba dead_host dead_serial (Ok r) =
      (r.1 ≡ suc d.serial) × (e.serial ≡ r.1)
      × IsStarted d e r.0 Op.Pair lba 1 (takeover_data dead_host dead_serial d.host r.1)
  IsTakeoverStart d e lba dead_host dead_serial (Err f) =
      (e.serial ≡ d.serial) × IsAsBefore d e × IsTakeoverFault d e lba dead_host dead_serial f
