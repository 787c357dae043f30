-- What the laws speak of.
use Rattle.std.specs.Prelude.{◌≡◌, ℕ, Bool, false, ◌-◌, ◌&&◌, List, [], ◌∷◌, length}
use Rattle.std.specs.List.{list_any}
use Rattle.nvme_model.specs.EntryBytes.{cqe_bytes}
use Rattle.nvme_model.specs.History.{Past}
use Rattle.nvme_model.specs.Tickets.{ticket}
use Rattle.nvme_model.specs.Operations.{op, is_exclusive}
use Rattle.nvme_model.specs.Open.{open_units, blocks_made, conflict, unit_range}
use Rattle.nvme_model.specs.Array.{has_block}
use Rattle.nvme_model.specs.Config.{completion_queue}
use Rattle.nvme_model.specs.declared.config.ConfigNumbers.{ConfigNumbers}
use Rattle.nvme_model.specs.Completions.{posted_completions, reaped_count, phase}
use Rattle.nvme_model.specs.Refusals.{owes_nothing_yet}
use Rattle.nvme_model.specs.Steps.{marked}
use Rattle.nvme_model.specs.declared.status.Status.{Status}
use Rattle.nvme_model.specs.declared.entry.PostLine.{PostLine}
use Rattle.nvme_model.specs.declared.entry.Entry.{Entry}
use Rattle.nvme_model.specs.declared.entry.GrantLine.{GrantLine}

-- no unit conflicts with a later one of the list
abbrev pub Apart : List GrantLine → Type 0
Apart [] = Unit {0}
Apart (g ∷ gs) = (list_any (λ h. conflict g.range g.mode h.range h.mode) gs ≡ false) × Apart gs

-- block l lies in an open Exclusive unit
abbrev pub is_held : Past → ℕ → Bool
is_held past l = list_any (λ g. is_exclusive g.mode && has_block g.range l) (open_units past)

-- each mark stands where this engine puts it
abbrev pub MarkedRight : Past → Type 0
MarkedRight [] = Unit {0}
MarkedRight (Entry.Block b ∷ past) =
    MarkedRight past
    × (b.effect ≡ marked (op (ticket past b.ticket)) (unit_range past b.ticket b.unit).blocks
    (length (blocks_made past b.ticket b.unit)) b.found)
MarkedRight (_ ∷ past) = MarkedRight past

-- ticket t owes a completion to a completion queue that is full
abbrev pub OwesToFull : ConfigNumbers → Past → ℕ → Type 0
OwesToFull c past t =
    let q = completion_queue c (ticket past t).queue in
    (owes_nothing_yet c past t ≡ false) × (length (posted_completions c past q) - reaped_count past q ≡ c.cq_size - 1)

-- p, for submission queue sqid, can be completion number k, from 0, of completion queue q: sqid uses q, the bytes name
-- sqid, and the phase is that of the number
abbrev pub IsNumber : ConfigNumbers → ℕ → ℕ → ℕ → PostLine → Type 0
IsNumber c sqid q k p =
    (sqhd cid : ℕ) × (s : Status) × (p.cqe ≡ cqe_bytes sqhd sqid cid (phase k c.cq_size) s)
    × (completion_queue c sqid ≡ q)
