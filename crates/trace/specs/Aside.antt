-- The queue pair that a history has more than its trace, on which Writes that come first stand for what was there.
use Rattle.std.specs.Prelude.{Bool, List, None, Option, Some, [], false, if◌then◌else◌, length, true, ℕ, ◌&&◌, ◌+◌}
use Rattle.std.specs.Prelude.{◌-◌, ◌==◌, ◌≡◌, ◌∷◌}
use Rattle.nvme_model.specs.EntryBytes.{cqe_fields}
use Rattle.nvme_model.specs.declared.config.ConfigNumbers.{ConfigNumbers}
use Rattle.nvme_model.specs.declared.entry.Entry.{Entry}
use Rattle.trace.specs.Options.{Pointwise, ReadsAs}
use Rattle.trace.specs.declared.options.TraceOptions.{TraceOptions}
use Rattle.trace.specs.declared.seen.Seen.{Seen}

-- The number of the queue pair that no line of the trace is of: the last of the history's, where contents are unknown.
abbrev pub aside_pair : TraceOptions → ConfigNumbers → Option ℕ
aside_pair o c = if o.contents_unknown then Some c.pairs else None

-- The configuration that a history of a trace has: the trace's, or, where contents are unknown, one with a queue pair
-- more, which has a completion queue of its own if each submission queue of the trace has.
abbrev pub history_numbers : TraceOptions → ConfigNumbers → ConfigNumbers
history_numbers o c =
    if o.contents_unknown
    then record {
      blocks = c.blocks;
      atomic = c.atomic;
      pairs = c.pairs + 1;
      sq_size = c.sq_size;
      cq_size = c.cq_size;
      jobs = c.jobs;
      cqs = if c.cqs == c.pairs then c.pairs + 1 else c.cqs;
    }
    else c

-- it is a Publish to that pair, or a completion of it
abbrev pub is_aside : Option ℕ → Seen → Bool
is_aside None s = false
is_aside (Some n) (Seen.Published p) = p.queue == n
is_aside (Some n) (Seen.Reaped r) = (cqe_fields r.cqe).sqid == n

-- What was seen, the newest first, without what was seen of that pair.
abbrev pub own : Option ℕ → List Seen → List Seen
own n [] = []
own n (s ∷ seen) = if is_aside n s then own n seen else s ∷ own n seen

-- how many commands are out, after one thing more
abbrev pub out_after : Seen → ℕ → ℕ
out_after (Seen.Published p) out = out + length p.batch
out_after (Seen.Reaped r) out = out - 1

-- how many commands of that pair are out: published, and not reaped
abbrev pub out_aside : Option ℕ → List Seen → ℕ
out_aside n [] = 0
out_aside n (s ∷ seen) = if is_aside n s then out_after s (out_aside n seen) else out_aside n seen

-- nothing was seen
abbrev pub none_seen : List Seen → Bool
none_seen [] = true
none_seen (s ∷ seen) = false

-- It may be seen next: of that pair, where nothing else was seen; anything else, where no command of that pair is out.
abbrev pub in_turn : Option ℕ → List Seen → Seen → Bool
in_turn n seen s = if is_aside n s then none_seen (own n seen) else out_aside n seen == 0

-- What was seen of that pair, the newest first, came before all else, and all its commands were reaped then.
abbrev pub comes_first : Option ℕ → List Seen → Bool
comes_first n [] = true
comes_first n (s ∷ seen) = comes_first n seen && in_turn n seen s

-- What was seen, the newest first, without that pair, stands line by line for this trace, the newest first.
abbrev pub ReadsTrace : TraceOptions → Option ℕ → List Seen → List Seen → Type 0
ReadsTrace o n seen trace = (comes_first n seen ≡ true) × Pointwise (ReadsAs o) (own n seen) trace
