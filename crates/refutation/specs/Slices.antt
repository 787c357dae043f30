-- Slices of a trace: a few of its commands' effects, in which order they may have been, and what each of them found.
use Rattle.std.specs.List.{filter, flat_map, list_all, list_any, range_with_len}
use Rattle.std.specs.Prelude.{Bool, List, None, Option, Some, [], drop, false, if◌then◌else◌, is_none, length, map, not}
use Rattle.std.specs.Prelude.{slice_get, suc, take, true, ℕ, ◌&&◌, ◌*◌, ◌-◌, ◌==◌, ◌||◌, ◌∷◌}
use Rattle.std.specs.Str.{bytes_eq}
use Rattle.nvme_model.specs.Array.{blocks_from, has_block}
use Rattle.nvme_model.specs.EntryBytes.{slba}
use Rattle.nvme_model.specs.Operations.{compare_data, has_write, op, write_data}
use Rattle.nvme_model.specs.Statuses.{is_success}
use Rattle.nvme_model.specs.Tickets.{Ticket, first_fields}
use Rattle.nvme_model.specs.Verdict.{is_in}
use Rattle.nvme_model.specs.declared.array.Range.{Range}
use Rattle.nvme_model.specs.declared.config.ConfigNumbers.{ConfigNumbers}
use Rattle.nvme_model.specs.declared.operation.Op.{Op}
use Rattle.host_laws.specs.Calls.{cqe_status}
use Rattle.trace.specs.declared.options.TraceOptions.{TraceOptions}
use Rattle.trace.specs.declared.seen.ReapedLine.{ReapedLine}
use Rattle.trace.specs.declared.seen.Seen.{Seen}
use Rattle.refutation.specs.Pieces.{Held, Piece, Slice}
use Rattle.refutation.specs.EffectOrders.{EffectName, comes_before}
use Rattle.refutation.specs.Lines.{answer_in, published_in}
use Rattle.refutation.specs.Told.{is_sure, says_differs, says_done, told_ticket, told_units}

-- ---- what effects do to blocks

-- The ticket of an effect, as the trace tells it.
abbrev pub ticket_of : List Seen → EffectName → Ticket
ticket_of trace n = told_ticket trace n.queue n.number

-- The line that answers an effect's command, where the trace has one.
abbrev pub answer_of : List Seen → EffectName → Option ReapedLine
answer_of trace n = answer_in trace n.queue n.number

-- The blocks of an effect's unit, where its command has that unit.
abbrev pub range_of : ConfigNumbers → List Seen → EffectName → Option Range
range_of c trace n = slice_get (told_units c trace n.queue n.number) n.unit

-- there is such a range, and it has block l
abbrev pub is_block_of : Option Range → ℕ → Bool
is_block_of None l = false
is_block_of (Some r) l = has_block r l

-- the blocks of a range, where there is one
abbrev pub blocks_of : Option Range → List ℕ
blocks_of None = []
blocks_of (Some r) = blocks_from r.slba r.blocks

-- another status than success was seen: the command wrote nothing
abbrev pub says_failed : Option ReapedLine → Bool
says_failed None = false
says_failed (Some r) = not (is_success (cqe_status r.cqe))

-- Effect n may write block l: its command writes and wasn't answered by a failure, and the unit has the block.
abbrev pub may_write : ConfigNumbers → List Seen → EffectName → ℕ → Bool
may_write c trace n l =
    has_write (op (ticket_of trace n)) && is_block_of (range_of c trace n) l && not (says_failed (answer_of trace n))

-- Each history of the trace has effect n, which writes block l.
abbrev pub surely_writes : ConfigNumbers → List Seen → EffectName → ℕ → Bool
surely_writes c trace n l =
    has_write (op (ticket_of trace n)) && is_block_of (range_of c trace n) l && says_done (answer_of trace n)

-- The effects of a command, one of each unit.
abbrev pub effects_of_command : ConfigNumbers → List Seen → ℕ → ℕ → List EffectName
effects_of_command c trace q j =
    map (λ u. record { queue = q; number = j; unit = u }) (range_with_len 0 (length (told_units c trace q j)))

-- The effects of all commands of a trace.
abbrev pub effects_in : ConfigNumbers → List Seen → List EffectName
effects_in c trace =
    flat_map (λ q. flat_map (effects_of_command c trace q) (range_with_len 0 (length (published_in trace q))))
    (range_with_len 1 c.pairs)

-- An effect that surely writes block l stands between y and r.
abbrev pub is_covered : TraceOptions → ConfigNumbers → List Seen → ℕ → EffectName → EffectName → Bool
is_covered o c trace l y r =
    list_any (λ x. surely_writes c trace x l && comes_before o c trace y x && comes_before o c trace x r)
    (effects_in c trace)

-- Effect y may be the last before r that writes block l.
abbrev pub may_be_found : TraceOptions → ConfigNumbers → List Seen → ℕ → EffectName → EffectName → Bool
may_be_found o c trace l y r =
    may_write c trace y l && not (comes_before o c trace r y) && not (is_covered o c trace l y r)

-- both are one effect
abbrev pub same_effect : EffectName → EffectName → Bool
same_effect a b = (a.queue == b.queue) && (a.number == b.number) && (a.unit == b.unit)

-- the effect is one of these
abbrev pub is_named : List EffectName → EffectName → Bool
is_named names n = list_any (λ m. same_effect m n) names

-- What `fits` says of holds of nothing that effects but these may have left on block l before r.
abbrev pub none_else : TraceOptions → ConfigNumbers → List Seen → List EffectName → EffectName → ℕ → (List ℕ → Bool)
    → Bool
none_else o c trace names r l fits =
    list_all (λ y. is_named names y || not (may_be_found o c trace l y r && fits (write_data (ticket_of trace y) l)))
    (effects_in c trace)

-- ---- the pieces of a slice

-- it reads or compares
abbrev pub looks : Option Op → Bool
looks (Some Op.Read) = true
looks (Some Op.Compare) = true
looks (Some Op.Pair) = true
looks _ = false

-- what block l was at an effect of this ticket that says yes, where these are the data beside its completion
abbrev pub found_block : Option Op → Ticket → List ℕ → ℕ → List ℕ
found_block (Some Op.Read) k payload l = take 512 (drop (512 * (l - slba (first_fields k))) payload)
found_block _ k payload l = compare_data k l

-- the data beside a completion
abbrev pub answer_data : Option ReapedLine → List ℕ
answer_data None = []
answer_data (Some r) = r.payload

-- the blocks of an effect that are looked at
abbrev pub blocks_in : ConfigNumbers → List Seen → List ℕ → EffectName → List ℕ
blocks_in c trace blocks n = filter (λ l. is_in l blocks) (blocks_of (range_of c trace n))

-- What an effect of the slice found on blocks, where no effect outside can have left it there.
abbrev pub finds_of : TraceOptions → ConfigNumbers → List Seen → List ℕ → List EffectName → EffectName → List Held
finds_of o c trace blocks names n =
    let k = ticket_of trace n in
    let a = answer_of trace n in
    if looks (op k) && not (says_differs a)
    then filter (λ h. none_else o c trace names n h.0 (λ d. bytes_eq d h.1))
    (map (λ l. (l, found_block (op k) k (answer_data a) l)) (blocks_in c trace blocks n))
    else []

-- The blocks of an effect that said no, with the data one of them wasn't, where no effect outside can have left
-- anything else there.
abbrev pub differs_of : TraceOptions → ConfigNumbers → List Seen → List ℕ → List EffectName → EffectName
    → List (List Held)
differs_of o c trace blocks names n =
    let k = ticket_of trace n in
    let ls = blocks_of (range_of c trace n) in
    if says_differs (answer_of trace n)
    && list_all (λ l. is_in l blocks && none_else o c trace names n l (λ d. not (bytes_eq d (compare_data k l)))) ls
    then map (λ l. (l, compare_data k l)) ls ∷ []
    else []

-- What an effect of the slice leaves on blocks.
abbrev pub writes_of : ConfigNumbers → List Seen → List ℕ → EffectName → List Held
writes_of c trace blocks n =
    let k = ticket_of trace n in
    if has_write (op k) && not (says_differs (answer_of trace n))
    then map (λ l. (l, write_data k l)) (blocks_in c trace blocks n)
    else []

-- the numbers, from i, of those effects of which the test holds
abbrev pub numbers_where : (EffectName → Bool) → ℕ → List EffectName → List ℕ
numbers_where test i [] = []
numbers_where test i (n ∷ names) =
    if test n then i ∷ numbers_where test (suc i) names else numbers_where test (suc i) names

-- The piece that an effect of a slice is.
abbrev pub piece_of : TraceOptions → ConfigNumbers → List Seen → List ℕ → List EffectName → EffectName → Piece
piece_of o c trace blocks names n =
    record {
      sure = is_sure c trace n.queue n.number n.unit;
      behind = numbers_where (λ m. comes_before o c trace m n) 0 names;
      finds = finds_of o c trace blocks names n;
      differs = differs_of o c trace blocks names n;
      writes = writes_of c trace blocks n;
    }

-- A slice has the effect: it is sure, or it may write.
abbrev pub is_piece : ConfigNumbers → List Seen → EffectName → Bool
is_piece c trace n =
    is_sure c trace n.queue n.number n.unit
    || (is_none (answer_of trace n) && has_write (op (ticket_of trace n)))

-- these effects, each once
abbrev pub each_once : List EffectName → List EffectName
each_once [] = []
each_once (n ∷ names) = if is_named (each_once names) n then each_once names else n ∷ each_once names

-- The effects of these commands, each a submission queue and a number there, that a slice has.
abbrev pub slice_names : ConfigNumbers → List Seen → List (ℕ × ℕ) → List EffectName
slice_names c trace commands =
    each_once (filter (is_piece c trace) (flat_map (λ m. effects_of_command c trace m.0 m.1) commands))

-- The slice of these commands of a trace that looks at these blocks.
abbrev pub slice_of : TraceOptions → ConfigNumbers → List Seen → List (ℕ × ℕ) → List ℕ → Slice
slice_of o c trace commands blocks =
    let names = slice_names c trace commands in
    map (piece_of o c trace blocks names) names
