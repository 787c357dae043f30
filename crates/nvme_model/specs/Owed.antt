-- The completions that a ticket owes, and their data.
use Rattle.std.specs.List.{flat_map, list_all, list_any}
use Rattle.std.specs.Prelude.{Bool, List, None, Option, Some, [], if◌then◌else◌, is_some, suc, ℕ, ◌&&◌, ◌∷◌}
use Rattle.nvme_model.specs.Answered.{says_no}
use Rattle.nvme_model.specs.Array.{blocks_from}
use Rattle.nvme_model.specs.declared.config.ConfigNumbers.{ConfigNumbers}
use Rattle.nvme_model.specs.History.{Past}
use Rattle.nvme_model.specs.Open.{has_ended}
use Rattle.nvme_model.specs.Operations.{op, units}
use Rattle.nvme_model.specs.Placed.{effect}
use Rattle.nvme_model.specs.Statuses.{compare_failure, failed_fused, is_success, success}
use Rattle.nvme_model.specs.Tickets.{Ticket, ticket}
use Rattle.nvme_model.specs.Value.{value}
use Rattle.nvme_model.specs.declared.operation.Op.{Op}
use Rattle.nvme_model.specs.declared.array.Range.{Range}
use Rattle.nvme_model.specs.declared.status.Status.{Status}
use Rattle.nvme_model.specs.declared.status.Verdict.{Verdict}

-- units with their numbers, from u on
abbrev pub numbered_units : ℕ → List Range → List (ℕ × Range)
numbered_units u [] = []
numbered_units u (r ∷ rs) = (u, r) ∷ numbered_units (suc u) rs

-- the units of ticket t, with their numbers
abbrev pub units_of : ConfigNumbers → Past → ℕ → List (ℕ × Range)
units_of c past t = numbered_units 0 (units c (ticket past t))

-- all units of ticket t have ended
abbrev pub all_ended : ConfigNumbers → Past → ℕ → Bool
all_ended c past t = list_all (λ u. has_ended past t u.0 u.1.blocks) (units_of c past t)

-- and each has its effect
abbrev pub all_done : ConfigNumbers → Past → ℕ → Bool
all_done c past t = all_ended c past t && list_all (λ u. is_some (effect past t u.0)) (units_of c past t)

-- an effect of ticket t says no
abbrev pub some_no : ConfigNumbers → Past → ℕ → Bool
some_no c past t = list_any (λ u. says_no past t u.0) (units_of c past t)

-- after its checks passed
abbrev pub owed_by : ConfigNumbers → Past → ℕ → Option Op → List Status
owed_by c past t None = success ∷ []
owed_by c past t (Some Op.Pair) =
    if some_no c past t && all_ended c past t then compare_failure ∷ failed_fused ∷ []
    else (if all_done c past t then success ∷ success ∷ [] else [])
owed_by c past t (Some o) =
    if some_no c past t then compare_failure ∷ []
    else (if all_done c past t then success ∷ [] else [])

-- the statuses by the verdict
abbrev pub owed_after : ConfigNumbers → Past → ℕ → Ticket → Verdict → List Status
owed_after c past t k (Verdict.SingleFailed s) = s ∷ []
owed_after c past t k (Verdict.PairFailed s r) = s ∷ r ∷ []
owed_after c past t k _ = owed_by c past t (op k)

-- what ticket t owes in all, the first first
abbrev pub owed : ConfigNumbers → Past → ℕ → List Status
owed c past t = owed_after c past t (ticket past t) (ticket past t).verdict

-- the contents at an effect
abbrev pub contents_at : Option Past → ℕ → List ℕ
contents_at None l = []
contents_at (Some before) l = value before l

-- the contents of each block of each unit, at its effect
abbrev pub read_data_by : ConfigNumbers → Past → ℕ → Option Op → List ℕ
read_data_by c past t (Some Op.Read) =
    flat_map (λ u. flat_map (contents_at (effect past t u.0)) (blocks_from u.1.slba u.1.blocks)) (units_of c past t)
read_data_by c past t _ = []

-- the data beside that completion: what a successful Read read
abbrev pub completion_data : ConfigNumbers → Past → ℕ → Status → List ℕ
completion_data c past t s = if is_success s then read_data_by c past t (op (ticket past t)) else []
