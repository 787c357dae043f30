-- The order of effects that a trace tells.
use Rattle.std.specs.Prelude.{Bool, List, [], false, if◌then◌else◌, length, nat_le, nat_lt, suc, ℕ, ◌%◌, ◌&&◌, ◌+◌}
use Rattle.std.specs.Prelude.{◌-◌}
use Rattle.std.specs.Prelude.{◌==◌, ◌||◌, ◌∷◌}
use Rattle.nvme_model.specs.Config.{completion_queue}
use Rattle.nvme_model.specs.EntryBytes.{cqe_fields}
use Rattle.nvme_model.specs.Operations.{is_pair, op}
use Rattle.nvme_model.specs.declared.config.ConfigNumbers.{ConfigNumbers}
use Rattle.trace.specs.declared.options.TraceOptions.{TraceOptions}
use Rattle.trace.specs.declared.seen.ReapedLine.{ReapedLine}
use Rattle.trace.specs.declared.seen.Seen.{Seen}
use Rattle.refutation.specs.Apart.{asks_heads}
use Rattle.refutation.specs.LineRules.{least_fetched}
use Rattle.refutation.specs.Lines.{before_entry, published_in, reaped_in}
use Rattle.refutation.specs.Told.{is_sure, told_ticket}

-- An effect by the submission queue of its command, the command's number there, and its unit's.
pub record EffectName : Type 0 where
  pub queue : ℕ
  pub number : ℕ
  pub unit : ℕ

-- The number of the last entry of a command: of a pair its second.
abbrev pub last_entry : List Seen → ℕ → ℕ → ℕ
last_entry trace q j = if is_pair (op (told_ticket trace q j)) then suc j else j

-- The effect a is sure before effect b's command is published.
abbrev pub ends_before : ConfigNumbers → List Seen → EffectName → EffectName → Bool
ends_before c trace a b =
    is_sure c (before_entry trace b.queue (last_entry trace b.queue b.number)) a.queue a.number a.unit

-- Both are of one command, and a is of the earlier unit.
abbrev pub is_earlier_unit : EffectName → EffectName → Bool
is_earlier_unit a b = (a.queue == b.queue) && (a.number == b.number) && nat_lt a.unit b.unit

-- ---- what SQHD tells

-- How many entries of its submission queue were fetched, at most, when a completion was posted that is reaped behind a
-- trace: as many as are published there, or as many less as SQHD says, modulo the slots.
abbrev pub most_fetched : ConfigNumbers → List Seen → ReapedLine → ℕ
most_fetched c trace r =
    let e = cqe_fields r.cqe in
    let n = length (published_in trace e.sqid) in
    n - (n + (c.sq_size - e.sqhd % c.sq_size)) % c.sq_size

-- The shortest beginning of a trace in which n entries of submission queue q are published.
abbrev pub through_entries : List Seen → ℕ → ℕ → List Seen
through_entries [] q n = []
through_entries (s ∷ trace) q n =
    if nat_le n (length (published_in trace q)) then through_entries trace q n else s ∷ trace

-- The shortest beginning of a trace that reaps i completions from completion queue n.
abbrev pub through_reaps : List Seen → ℕ → ℕ → List Seen
through_reaps [] n i = []
through_reaps (s ∷ trace) n i = if nat_le i (reaped_in trace n) then through_reaps trace n i else s ∷ trace

-- the longer of two beginnings of a trace
abbrev pub longer : List Seen → List Seen → List Seen
longer xs ys = if nat_lt (length xs) (length ys) then ys else xs

-- The longest beginning that surely was before the newest completion that a trace reaps from completion queue n was
-- posted: the entries that were fetched then were published, that completion found room, and earlier ones were posted.
abbrev pub before_post : ConfigNumbers → List Seen → ℕ → List Seen
before_post c [] n = []
before_post c (Seen.Published p ∷ trace) n = before_post c trace n
before_post c (Seen.Reaped r ∷ trace) n =
    let q = (cqe_fields r.cqe).sqid in
    if r.queue == n
    then longer (before_post c trace n)
    (longer (through_entries trace q (least_fetched c (Seen.Reaped r ∷ trace) q))
    (through_reaps trace n (reaped_in trace n + 2 - c.cq_size)))
    else before_post c trace n

-- Effect a was there when the completion was posted that this trace reaps last: its command was answered there or
-- before on the same completion queue, or in what surely was before that Post.
abbrev pub is_made_by_post : ConfigNumbers → List Seen → ReapedLine → EffectName → Bool
is_made_by_post c trace r a =
    ((completion_queue c a.queue == r.queue) && is_sure c (Seen.Reaped r ∷ trace) a.queue a.number a.unit)
    || is_sure c (before_post c (Seen.Reaped r ∷ trace) r.queue) a.queue a.number a.unit

-- The command of effect b wasn't fetched then.
abbrev pub is_fetched_later : ConfigNumbers → List Seen → ReapedLine → EffectName → Bool
is_fetched_later c trace r b =
    ((cqe_fields r.cqe).sqid == b.queue) && nat_le (most_fetched c trace r) b.number

-- A completion tells that effect a was there before the command of effect b was fetched.
abbrev pub is_told_by_head : ConfigNumbers → List Seen → EffectName → EffectName → Bool
is_told_by_head c [] a b = false
is_told_by_head c (Seen.Published p ∷ trace) a b = is_told_by_head c trace a b
is_told_by_head c (Seen.Reaped r ∷ trace) a b =
    (is_fetched_later c trace r b && is_made_by_post c trace r a) || is_told_by_head c trace a b

-- ---- the order

-- In each history that explains this trace effect a stands before effect b, where it has b. SQHD is asked where it
-- isn't ignored, and it is known what blocks held.
abbrev pub comes_before : TraceOptions → ConfigNumbers → List Seen → EffectName → EffectName → Bool
comes_before o c trace a b =
    ends_before c trace a b || is_earlier_unit a b || (asks_heads o && is_told_by_head c trace a b)
