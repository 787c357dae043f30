-- The order of effects by places: the line that answers an effect's command, and how many lines surely stood before
-- another was made. A line's number is that of the lines before it.
use Rattle.std.specs.Prelude.{Bool, List, None, Option, Some, [], false, if◌then◌else◌, length, nat_lt, suc, ℕ, ◌&&◌}
use Rattle.std.specs.Prelude.{◌==◌, ◌||◌, ◌∷◌}
use Rattle.nvme_model.specs.Config.{completion_queue}
use Rattle.nvme_model.specs.EntryBytes.{cqe_fields}
use Rattle.nvme_model.specs.declared.config.ConfigNumbers.{ConfigNumbers}
use Rattle.trace.specs.declared.options.TraceOptions.{TraceOptions}
use Rattle.trace.specs.declared.seen.Seen.{Seen}
use Rattle.refutation.specs.Apart.{asks_heads}
use Rattle.refutation.specs.EffectOrders.{EffectName, before_post, is_earlier_unit, is_fetched_later, last_entry}
use Rattle.refutation.specs.Lines.{answered, before_entry, is_number}
use Rattle.refutation.specs.Told.{is_sure}

-- The number of the line that answers entry j of submission queue q, where a trace has one.
abbrev pub answer_place : List Seen → ℕ → ℕ → Option ℕ
answer_place [] q j = None
answer_place (Seen.Published p ∷ trace) q j = answer_place trace q j
answer_place (Seen.Reaped r ∷ trace) q j =
    if ((cqe_fields r.cqe).sqid == q) && is_number j (answered trace r.cqe) then Some (length trace)
    else answer_place trace q j

-- there is such a line among the first n
abbrev pub is_among : Option ℕ → ℕ → Bool
is_among None n = false
is_among (Some i) n = nat_lt i n

-- the larger of two numbers
abbrev pub larger : ℕ → ℕ → ℕ
larger m n = if nat_lt m n then n else m

-- How many lines a completion's SQHD tells to be before effect b's command was fetched: as many as surely were before
-- the completion was posted, and of answers on completion queue n all up to its own.
abbrev pub head_place : ConfigNumbers → List Seen → ℕ → EffectName → ℕ
head_place c [] n b = 0
head_place c (Seen.Published p ∷ trace) n b = head_place c trace n b
head_place c (Seen.Reaped r ∷ trace) n b =
    if is_fetched_later c trace r b
    then larger (larger (length (before_post c (Seen.Reaped r ∷ trace) r.queue)) (head_place c trace n b))
    (if n == r.queue then suc (length trace) else 0)
    else head_place c trace n b

-- How many lines of a trace, of answers on completion queue n, tell that their commands' effects stand before b.
abbrev pub place_before : TraceOptions → ConfigNumbers → List Seen → ℕ → EffectName → ℕ
place_before o c trace n b =
    larger (length (before_entry trace b.queue (last_entry trace b.queue b.number)))
    (if asks_heads o then head_place c trace n b else 0)

-- Effect a comes before b: it is sure, and answered among those lines; or it is an earlier unit of the same command.
abbrev pub comes_before_by_place : TraceOptions → ConfigNumbers → List Seen → EffectName → EffectName → Bool
comes_before_by_place o c trace a b =
    (is_sure c trace a.queue a.number a.unit
    && is_among (answer_place trace a.queue a.number) (place_before o c trace (completion_queue c a.queue) b))
    || is_earlier_unit a b
