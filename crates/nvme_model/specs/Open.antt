-- Which units are granted, which have ended, and which conflict.
use Rattle.std.specs.List.{filter, find, list_any}
use Rattle.std.specs.Prelude.{Bool, List, None, Option, Some, [], false, if◌then◌else◌, length, nat_le, not, true, ℕ}
use Rattle.std.specs.Prelude.{◌&&◌, ◌*◌, ◌+◌, ◌++◌, ◌==◌, ◌||◌, ◌∷◌}
use Rattle.nvme_model.specs.Array.{overlap}
use Rattle.nvme_model.specs.History.{Past}
use Rattle.nvme_model.specs.Operations.{is_exclusive, is_pair, op}
use Rattle.nvme_model.specs.Tickets.{Ticket, ticket}
use Rattle.nvme_model.specs.declared.entry.BlockLine.{BlockLine}
use Rattle.nvme_model.specs.declared.entry.Entry.{Entry}
use Rattle.nvme_model.specs.declared.operation.Found.{Found}
use Rattle.nvme_model.specs.declared.entry.GrantLine.{GrantLine}
use Rattle.nvme_model.specs.declared.array.Mode.{Mode}
use Rattle.nvme_model.specs.declared.array.Range.{Range}

-- the Grants, the newest first
abbrev pub granted : Past → List GrantLine
granted [] = []
granted (Entry.Grant g ∷ past) = g ∷ granted past
granted (_ ∷ past) = granted past

-- how many units of ticket t were granted
abbrev pub grants_of : Past → ℕ → ℕ
grants_of past t = length (filter (λ g. g.ticket == t) (granted past))

-- the Block entries of unit u of ticket t, the newest first
abbrev pub blocks_made : Past → ℕ → ℕ → List BlockLine
blocks_made [] t u = []
blocks_made (Entry.Block b ∷ past) t u =
    (if (b.ticket == t) && (b.unit == u) then b ∷ [] else []) ++ blocks_made past t u
blocks_made (_ ∷ past) t u = blocks_made past t u

-- how many Block entries ticket t has
abbrev pub blocks_of : Past → ℕ → ℕ
blocks_of [] t = 0
blocks_of (Entry.Block b ∷ past) t = blocks_of past t + (if b.ticket == t then 1 else 0)
blocks_of (_ ∷ past) t = blocks_of past t

-- it says `differs`
abbrev pub is_differs : Found → Bool
is_differs Found.Differs = true
is_differs _ = false

-- it says `equal`
abbrev pub is_equal : Found → Bool
is_equal Found.Equal = true
is_equal _ = false

-- it says `written`
abbrev pub is_written : Found → Bool
is_written Found.Written = true
is_written _ = false

-- it says `read`
abbrev pub is_read_found : Found → Bool
is_read_found Found.Read = true
is_read_found _ = false

-- the Block entries that a unit of n blocks has
abbrev pub steps_needed : Ticket → ℕ → ℕ
steps_needed k n = if is_pair (op k) then 2 * n else n

-- they were made, or one said `differs`
abbrev pub has_ended : Past → ℕ → ℕ → ℕ → Bool
has_ended past t u n =
    nat_le (steps_needed (ticket past t) n) (length (blocks_made past t u))
    || list_any (λ b. is_differs b.found) (blocks_made past t u)

-- the units that are granted and haven't ended
abbrev pub open_units : Past → List GrantLine
open_units past = filter (λ g. not (has_ended past g.ticket g.unit g.range.blocks)) (granted past)

-- the ranges share a block, and one is Exclusive
abbrev pub conflict : Range → Mode → Range → Mode → Bool
conflict r m s n = overlap r s && (is_exclusive m || is_exclusive n)

-- a `differs` ended ticket t
abbrev pub differed : Past → ℕ → Bool
differed [] t = false
differed (Entry.Block b ∷ past) t = ((b.ticket == t) && is_differs b.found) || differed past t
differed (_ ∷ past) t = differed past t

-- the range of a Grant; none without one
abbrev pub range_of : Option GrantLine → Range
range_of None = record { slba = 0; blocks = 0 }
range_of (Some g) = g.range

-- the blocks of unit u of ticket t; none where it wasn't granted
abbrev pub unit_range : Past → ℕ → ℕ → Range
unit_range past t u = range_of (find (λ g. (g.ticket == t) && (g.unit == u)) (granted past))
