-- Whose turn it is at something seen: what was there at the beginning comes first.
use Rattle.std.specs.Prelude.{Bool, None, Option, Some, false, if◌then◌else◌, length, ℕ, ◌+◌, ◌-◌, ◌==◌}
use Rattle.nvme_model.specs.EntryBytes.{cqe_fields}
use Rattle.nvme_model.specs.declared.entry.Entry.{Entry}
use Rattle.witness_check.specs.declared.difference.Difference.{Difference}
use Rattle.witness_check.specs.declared.difference.Difference.TheVariants.{Contents}
use Rattle.witness_check.specs.declared.turn.Turn.{Turn}
use Rattle.witness_check.specs.declared.turn.Turn.TheVariants.{Aside, Late, Own}
use Rattle.witness_check.specs.declared.witness.Told.{Told}

-- an entry is a Publish to this queue, or the Reap of a completion of it
abbrev pub is_aside_entry : Option ℕ → Entry → Bool
is_aside_entry None e = false
is_aside_entry (Some n) (Entry.Publish p) = p.queue == n
is_aside_entry (Some n) (Entry.Reap r) = (cqe_fields r.cqe).sqid == n
is_aside_entry (Some n) (Entry.Fetch f) = false
is_aside_entry (Some n) (Entry.Grant g) = false
is_aside_entry (Some n) (Entry.Block b) = false
is_aside_entry (Some n) (Entry.Post p) = false

-- how many commands are out after it
abbrev pub out_with : Entry → ℕ → ℕ
out_with (Entry.Publish p) out = out + length p.batch
out_with (Entry.Reap r) out = out - 1
out_with (Entry.Fetch f) out = out
out_with (Entry.Grant g) out = out
out_with (Entry.Block b) out = out
out_with (Entry.Post p) out = out

-- whose turn it is, where so many commands are out and the trace says the thing with this number next
abbrev pub turn_of : Bool → ℕ → ℕ → Turn
turn_of aside out next =
    if aside then (if next == 1 then Aside else Late) else (if out == 0 then Own else Late)

-- what differs then, where this differs from what the trace says next
abbrev pub differs_at : Turn → Option Difference → Option Difference
differs_at Own this = this
differs_at Aside this = None
differs_at Late this = Some Contents

-- ---- after one more entry, by what is told of it, where nothing differed so far

-- what differs
abbrev pub new_difference : Told → Turn → Option Difference
new_difference Told.Bad turn = None
new_difference Told.Hidden turn = None
new_difference Told.Same turn = differs_at turn None
new_difference (Told.Unlike d) turn = differs_at turn (Some d)

-- the number of what the trace says next, where `after` is one more
abbrev pub new_next : Told → Turn → ℕ → ℕ → ℕ
new_next Told.Bad turn next after = next
new_next Told.Hidden turn next after = next
new_next Told.Same Own next after = after
new_next Told.Same Aside next after = next
new_next Told.Same Late next after = next
new_next (Told.Unlike d) turn next after = next

-- how many commands of that queue pair are out, where with this entry there are `more`
abbrev pub new_out : Told → Turn → ℕ → ℕ → ℕ
new_out Told.Bad turn out more = out
new_out Told.Hidden turn out more = out
new_out Told.Same Own out more = out
new_out Told.Same Aside out more = more
new_out Told.Same Late out more = out
new_out (Told.Unlike d) Own out more = out
new_out (Told.Unlike d) Aside out more = more
new_out (Told.Unlike d) Late out more = out
