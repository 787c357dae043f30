-- What a driver's log, the newest event first, says of claims and releases of slots.
use Rattle.std.specs.Prelude.{Bool, List, None, Option, Some, [], false, length, not, suc, ℕ, ◌&&◌, ◌++◌, ◌==◌, ◌||◌}
use Rattle.std.specs.Prelude.{◌∷◌}
use Rattle.std.specs.List.{list_any}
use Rattle.nvme_model.specs.EntryBytes.{cqe_fields}
use Rattle.nvme_model.specs.Slots.{Name, Swap, releases, same_name, swaps_in}
use Rattle.nvme_model.specs.Statuses.{is_success}
use Rattle.host_laws.specs.Calls.{cqe_status}
use Rattle.driver_calls.specs.Events.{waiting_number}
use Rattle.driver_calls.specs.Log.{names_cid, newest, sent, state_of}
use Rattle.driver_calls.specs.declared.event.PortEvent.{PortEvent}

-- the claims and releases that were published, the newest batch first
abbrev pub log_swaps : List PortEvent → List Swap
log_swaps [] = []
log_swaps (PortEvent.Sent q batch ∷ log) = swaps_in q (length (sent log q)) batch ++ log_swaps log
log_swaps (PortEvent.Got cqe payload ∷ log) = log_swaps log

-- there is such a number, and it is j
abbrev pub is_number : ℕ → Option ℕ → Bool
is_number j None = false
is_number j (Some i) = i == j

-- entry j of submission queue q waits, and this completion names it
abbrev pub names_entry : List PortEvent → List ℕ → ℕ → ℕ → Bool
names_entry log cqe q j =
    let cid = (cqe_fields cqe).cid in
    names_cid cqe q cid && is_number j (waiting_number (state_of log q cid) (newest log q cid))

-- success was reaped for entry j of submission queue q
abbrev pub log_success : List PortEvent → ℕ → ℕ → Bool
log_success [] q j = false
log_success (PortEvent.Sent p batch ∷ log) q j = log_success log q j
log_success (PortEvent.Got cqe payload ∷ log) q j =
    (names_entry log cqe q j && is_success (cqe_status cqe)) || log_success log q j

-- a release of the name from the slot at block l was published
abbrev pub log_released : List PortEvent → ℕ → Name → Bool
log_released log l n = list_any (λ s. releases s l n) (log_swaps log)

-- the name is believed of the slot at block l: its claim's success was reaped, and no release of it was published
abbrev pub log_believed : List PortEvent → ℕ → Name → Bool
log_believed log l n =
    list_any (λ s. s.claims && (s.lba == l) && same_name s.name n && log_success log s.queue (suc s.number))
    (log_swaps log)
    && not (log_released log l n)
