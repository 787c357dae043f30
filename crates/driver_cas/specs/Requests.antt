-- What a start call asks for, and what comes of it.
use Rattle.std.specs.Prelude.{Err, Ok, Result, Some, if◌then◌else◌, nat_lt, not, ℕ, ◌%◌, ◌&&◌, ◌+◌, ◌/◌, ◌==◌, ◌||◌}
use Rattle.std.specs.Prelude.{◌≡◌}
use Rattle.nvme_model.specs.Array.{overlap}
use Rattle.nvme_model.specs.Operations.{has_write, is_pair}
use Rattle.nvme_model.specs.declared.array.Range.{Range}
use Rattle.nvme_model.specs.declared.operation.Op.{Op}
use Rattle.driver_calls.specs.declared.request.CallData.{CallData}
use Rattle.driver_calls.specs.declared.request.Request.{Request}
use Rattle.driver_cas.specs.Starts.{IsAsBefore}
use Rattle.driver_cas.specs.Tries.{IsTryBegun}
use Rattle.driver_cas.specs.declared.call.Call.{Call}
use Rattle.driver_cas.specs.declared.driver.Driver.{Driver}
use Rattle.driver_cas.specs.declared.fault.Fault.{Fault}
use Rattle.driver_cas.specs.declared.port.Port.{Ghosts}

-- What so many bytes from block slba on ask for, with acwu 0's based: the first fault that holds, or the request.
abbrev pub request_of : ℕ → Range → Op → ℕ → ℕ → Result Request Fault
request_of acwu slots o slba bytes =
    let n = bytes / 512 in
    if (bytes == 0) || not (bytes % 512 == 0) then Err Fault.Length
    else (if nat_lt 256 n || (is_pair (Some o) && nat_lt (acwu + 1) n) then Err Fault.TooLong
    else (if has_write (Some o) && overlap (record { slba = slba; blocks = n }) slots then Err Fault.SlotArea
    else Ok (record { op = o; slba = slba; blocks = n })))

-- that of a pair, whose two data have as many bytes
abbrev pub pair_request_of : ℕ → Range → ℕ → ℕ → ℕ → Result Request Fault
pair_request_of acwu slots slba bytes others =
    if bytes == others then request_of acwu slots Op.Pair slba bytes else Err Fault.Length

module _ {P : Type 0} {g : Ghosts P} where
  -- A fault of what was asked is answered as such, and the port isn't asked. Else the call is begun, or a port's fault
  -- is answered. After any fault the driver is as before, and nothing was published.
  abbrev pub IsStart : Driver P g → Driver P g → Result Request Fault → CallData → Result (Call P) Fault → Type 0
  IsStart d e (Err f) contents r = (r ≡ Err f) × (e.port ≡ d.port) × IsAsBefore d e
  IsStart d e (Ok q) contents r = IsTryBegun d e q contents r
