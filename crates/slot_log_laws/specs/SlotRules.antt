-- Which batches keep the discipline of the slot area by what their driver's log says.
use Rattle.std.specs.Prelude.{Bool, List, [], false, if◌then◌else◌, length, nat_lt, not, true, ℕ, ◌&&◌, ◌+◌, ◌==◌, ◌||◌}
use Rattle.std.specs.Prelude.{◌∷◌}
use Rattle.std.specs.List.{list_all, list_any}
use Rattle.nvme_model.specs.Array.{has_block}
use Rattle.nvme_model.specs.Slots.{Swap, in_area, swaps_in, touches}
use Rattle.nvme_model.specs.declared.array.Range.{Range}
use Rattle.nvme_model.specs.declared.submission.Submission.{Submission}
use Rattle.driver_calls.specs.Log.{sent}
use Rattle.driver_calls.specs.declared.event.PortEvent.{PortEvent}
use Rattle.slot_log_laws.specs.Swaps.{log_believed, log_swaps}

-- every claim of the area has a serial below this one
abbrev pub serials_below : Range → ℕ → List PortEvent → Bool
serials_below slots serial log =
    list_all (λ s. not s.claims || nat_lt s.name.serial serial) (in_area slots (log_swaps log))

-- it is one claim in the area, by this host and with a serial above all before, or one release there, of a believed
-- name
abbrev pub swap_keeps_slot_rules : Range → ℕ → List PortEvent → List Swap → Bool
swap_keeps_slot_rules slots host log (s ∷ []) =
    has_block slots s.lba
    && (if s.claims then (s.name.host == host) && serials_below slots s.name.serial log
    else log_believed log s.lba s.name)
swap_keeps_slot_rules slots host log _ = false

-- the batch touches no slot, or is one such pair
abbrev pub batch_keeps_slot_rules : Range → ℕ → List PortEvent → ℕ → List Submission → Bool
batch_keeps_slot_rules slots host log q batch =
    not (list_any (touches slots) batch)
    || ((length batch == 2) && swap_keeps_slot_rules slots host log (swaps_in q (length (sent log q)) batch))

-- each batch was so, by what was in the log before it
abbrev pub each_keeps_slot_rules : Range → ℕ → List PortEvent → Bool
each_keeps_slot_rules slots host [] = true
each_keeps_slot_rules slots host (PortEvent.Sent q batch ∷ log) =
    each_keeps_slot_rules slots host log && batch_keeps_slot_rules slots host log q batch
each_keeps_slot_rules slots host (PortEvent.Got cqe payload ∷ log) = each_keeps_slot_rules slots host log

-- and no serial above `last` was used
abbrev pub keeps_slot_rules : Range → ℕ → ℕ → List PortEvent → Bool
keeps_slot_rules slots host last log = each_keeps_slot_rules slots host log && serials_below slots (last + 1) log
