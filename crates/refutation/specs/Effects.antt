-- The effects of a history by their commands: a command is named by its submission queue and the number there, from 0,
-- of its first entry; its units by their numbers, from 0.
use Rattle.std.specs.Prelude.{Bool, None, Option, Some, [], if◌then◌else◌, ℕ, ◌&&◌, ◌==◌, ◌∷◌}
use Rattle.nvme_model.specs.History.{Past}
use Rattle.nvme_model.specs.Slots.{fetched_before}
use Rattle.nvme_model.specs.Tickets.{ticket}
use Rattle.nvme_model.specs.declared.entry.BlockLine.{BlockLine}
use Rattle.nvme_model.specs.declared.entry.Entry.{Entry}

-- A Block entry with this before it is the effect of unit u of entry j of submission queue q.
abbrev pub is_effect_of : Past → BlockLine → ℕ → ℕ → ℕ → Bool
is_effect_of before b q j u =
    b.effect && ((ticket before b.ticket).queue == q) && (fetched_before before b.ticket == j) && (b.unit == u)

-- What was before the effect of unit u of entry j of submission queue q, where a history has it.
abbrev pub effect_by : Past → ℕ → ℕ → ℕ → Option Past
effect_by [] q j u = None
effect_by (Entry.Block b ∷ past) q j u = if is_effect_of past b q j u then Some past else effect_by past q j u
effect_by (_ ∷ past) q j u = effect_by past q j u
