-- What each block of the array is: by the effects, one at a time.
use Rattle.std.specs.List.{list_all}
use Rattle.std.specs.Prelude.{Bool, List, [], bytes_eq, if◌then◌else◌, not, ℕ, ◌&&◌, ◌||◌, ◌∷◌}
use Rattle.nvme_model.specs.Array.{blocks_from, has_block, zeros}
use Rattle.nvme_model.specs.History.{Past}
use Rattle.nvme_model.specs.Open.{unit_range}
use Rattle.nvme_model.specs.Operations.{compare_data, has_compare, has_write, op, write_data}
use Rattle.nvme_model.specs.Tickets.{Ticket, ticket}
use Rattle.nvme_model.specs.declared.entry.Entry.{Entry}
use Rattle.nvme_model.specs.declared.array.Range.{Range}

-- at these contents each block of the range is the Compare's data (NVM 1.0, Compare command)
abbrev pub all_equal : (ℕ → List ℕ) → Ticket → Range → Bool
all_equal contents k r = list_all (λ l. bytes_eq (contents l) (compare_data k l)) (blocks_from r.slba r.blocks)

-- at these contents an effect of the ticket writes: a Write's does, and a pair's that says yes (NVM 1.0, Compare and
-- Write)
abbrev pub writes : (ℕ → List ℕ) → Ticket → Range → Bool
writes contents k r = has_write (op k) && (not (has_compare (op k)) || all_equal contents k r)

-- Block l, by the last writing effect that has it, each effect done whole at its entry.
abbrev pub value : Past → ℕ → List ℕ
value [] l = zeros
value (Entry.Block b ∷ past) l =
    let k = ticket past b.ticket in
    let r = unit_range past b.ticket b.unit in
    if b.effect && has_block r l && writes (value past) k r then write_data k l else value past l
value (_ ∷ past) l = value past l
