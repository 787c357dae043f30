-- What Block entries say, and what an effect says.
use Rattle.std.specs.Bool.{beq}
use Rattle.std.specs.List.{list_all}
use Rattle.std.specs.Prelude.{Bool, List, None, Option, Some, bytes_eq, false, if◌then◌else◌, nat_lt, not, true, ℕ}
use Rattle.std.specs.Prelude.{◌&&◌, ◌||◌}
use Rattle.nvme_model.specs.History.{Past}
use Rattle.nvme_model.specs.Open.{is_differs, is_equal, is_read_found, is_written, unit_range}
use Rattle.nvme_model.specs.Operations.{compare_data, has_compare, op}
use Rattle.nvme_model.specs.Placed.{effect}
use Rattle.nvme_model.specs.Tickets.{Ticket, ticket}
use Rattle.nvme_model.specs.Value.{all_equal, value}
use Rattle.nvme_model.specs.declared.entry.BlockLine.{BlockLine}
use Rattle.nvme_model.specs.declared.operation.Found.{Found}
use Rattle.nvme_model.specs.declared.operation.Op.{Op}
use Rattle.nvme_model.specs.declared.array.Range.{Range}

-- the effect with this before it says no
abbrev pub no_at : Option Past → Ticket → Range → Bool
no_at None k r = false
no_at (Some before) k r = has_compare (op k) && not (all_equal (value before) k r)

-- the effect of unit u of ticket t says no
abbrev pub says_no : Past → ℕ → ℕ → Bool
says_no past t u = no_at (effect past t u) (ticket past t) (unit_range past t u)

-- the word of the j-th Block entry of a unit of n blocks
abbrev pub may_find : Option Op → ℕ → ℕ → Found → Bool
may_find None n j f = false
may_find (Some Op.Read) n j f = is_read_found f
may_find (Some Op.Compare) n j f = is_equal f || is_differs f
may_find (Some Op.Write) n j f = is_written f
may_find (Some Op.WriteZeroes) n j f = is_written f
may_find (Some Op.Pair) n j f = if nat_lt j n then is_equal f || is_differs f else is_written f

-- each comparing entry says `equal` exactly where the value at the effect is the Compare's data
abbrev pub right_answers : Option Past → Ticket → List BlockLine → Bool
right_answers None k made = true
right_answers (Some before) k made =
    list_all (λ b. not (is_equal b.found || is_differs b.found)
    || beq (is_equal b.found) (bytes_eq (value before b.lba) (compare_data k b.lba))) made
