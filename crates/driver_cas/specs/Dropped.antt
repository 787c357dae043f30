-- Completions that a port reaped and no command waited for.
use Rattle.std.specs.Prelude.{Bool, List, [], if◌then◌else◌, min, not, suc, ℕ, ◌&&◌, ◌+◌, ◌-◌, ◌^◌, ◌∷◌, ◌≡◌, ◌⊎◌}
use Rattle.nvme_model.specs.EntryBytes.{cqe_fields}
use Rattle.host_laws.specs.Calls.{is_clean}
use Rattle.driver_calls.specs.Log.{is_idle, state_of}
use Rattle.driver_calls.specs.declared.event.PortEvent.{PortEvent}
use Rattle.driver_cas.specs.Cids.{QueueCids}
use Rattle.driver_cas.specs.Tables.{Matches}

-- a command waits for the completion: it sets no reserved field, and the newest entry with its CID waits
abbrev pub is_owed : List PortEvent → List ℕ → Bool
is_owed log cqe = is_clean cqe && not (is_idle (state_of log (cqe_fields cqe).sqid (cqe_fields cqe).cid))

-- how many of the completions no command waited for
abbrev pub dropped_in : List PortEvent → ℕ
dropped_in [] = 0
dropped_in (PortEvent.Sent queue batch ∷ log) = dropped_in log
dropped_in (PortEvent.Got cqe payload ∷ log) = if is_owed log cqe then dropped_in log else suc (dropped_in log)

-- one more, in 64 bits
abbrev pub one_more_dropped : ℕ → ℕ
one_more_dropped n = min (n + 1) (2 ^ 64 - 1)

-- their count as a driver has it, in 64 bits
abbrev pub drop_count : List PortEvent → ℕ
drop_count log = min (dropped_in log) (2 ^ 64 - 1)

-- Nothing was reaped and nothing is counted; or one completion was, and it is counted where no command waited for it.
abbrev pub CountsDropped : List PortEvent → List PortEvent → QueueCids → ℕ → ℕ → Type 0
CountsDropped before after cids old new =
    ((after ≡ before) × (new ≡ old))
    ⊎ ((cqe : List ℕ) × (payload : List ℕ) × (after ≡ PortEvent.Got cqe payload ∷ before)
    × ((log : List PortEvent) → Matches cids log → new ≡ (if is_owed log cqe then old else one_more_dropped old)))
