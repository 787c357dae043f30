-- What differs between what hosts saw of a history and what a trace says.
use Rattle.std.specs.Prelude.{List, None, Option, Some, false, length, reverse, slice_get, take, true, ℕ, ◌++◌, ◌<◌}
use Rattle.std.specs.Prelude.{◌≡◌, ◌≢◌, ◌≤◌, ◌∷◌, ◌⊎◌}
use Rattle.nvme_model.specs.declared.entry.PublishLine.{PublishLine}
use Rattle.trace.specs.Aside.{ReadsTrace, in_turn, is_aside}
use Rattle.trace.specs.Options.{Pointwise, ReadsAs, ReadsEntry, read_completion}
use Rattle.trace.specs.declared.options.TraceOptions.{TraceOptions}
use Rattle.trace.specs.declared.seen.ReapedLine.{ReapedLine}
use Rattle.trace.specs.declared.seen.Seen.{Seen}
use Rattle.witness_check.specs.declared.difference.Difference.{Difference}
use Rattle.witness_check.specs.declared.difference.Difference.TheVariants.{Batch, Completion, Contents, Data}
use Rattle.witness_check.specs.declared.difference.Difference.TheVariants.{HistoryEnds, Kind, Order, Queue, TraceEnds}

-- this is what differs first between two Publishes
abbrev pub PublishesDiffer : TraceOptions → PublishLine → PublishLine → Difference → Type 0
PublishesDiffer o p t Queue = p.queue ≢ t.queue
PublishesDiffer o p t Batch = (p.queue ≡ t.queue) × (Pointwise (ReadsEntry o) p.batch t.batch → ⊥)
PublishesDiffer o p t TraceEnds = ⊥
PublishesDiffer o p t HistoryEnds = ⊥
PublishesDiffer o p t Kind = ⊥
PublishesDiffer o p t Completion = ⊥
PublishesDiffer o p t Data = ⊥
PublishesDiffer o p t Contents = ⊥
PublishesDiffer o p t Order = ⊥

-- this is what differs first between two Reaps
abbrev pub ReapsDiffer : TraceOptions → ReapedLine → ReapedLine → Difference → Type 0
ReapsDiffer o r t Queue = r.queue ≢ t.queue
ReapsDiffer o r t Completion = (r.queue ≡ t.queue) × (read_completion o r.cqe ≢ read_completion o t.cqe)
ReapsDiffer o r t Data =
    (r.queue ≡ t.queue) × (read_completion o r.cqe ≡ read_completion o t.cqe) × (r.payload ≢ t.payload)
ReapsDiffer o r t TraceEnds = ⊥
ReapsDiffer o r t HistoryEnds = ⊥
ReapsDiffer o r t Kind = ⊥
ReapsDiffer o r t Batch = ⊥
ReapsDiffer o r t Contents = ⊥
ReapsDiffer o r t Order = ⊥

-- this is what differs first between two things: their kinds, their queues, or what comes with them
abbrev pub ThingsDiffer : TraceOptions → Seen → Seen → Difference → Type 0
ThingsDiffer o (Seen.Published p) (Seen.Published t) d = PublishesDiffer o p t d
ThingsDiffer o (Seen.Published p) (Seen.Reaped t) d = d ≡ Kind
ThingsDiffer o (Seen.Reaped r) (Seen.Published t) d = d ≡ Kind
ThingsDiffer o (Seen.Reaped r) (Seen.Reaped t) d = ReapsDiffer o r t d

-- the same of what was seen and what the trace says, where one of them may have ended
abbrev pub Differ : TraceOptions → Option Seen → Option Seen → Difference → Type 0
Differ o None None d = ⊥
Differ o None (Some t) d = d ≡ HistoryEnds
Differ o (Some s) None d = d ≡ TraceEnds
Differ o (Some s) (Some t) d = ThingsDiffer o s t d

-- This is what differs at one thing more behind what was seen, the newest first, where the trace says this next: it
-- isn't its turn, or it is of the trace's own queues and differs.
abbrev pub DiffersBehind : TraceOptions → Option ℕ → List Seen → Seen → Option Seen → Difference → Type 0
DiffersBehind o a seen s next d =
    ((in_turn a seen s ≡ false) × (d ≡ Contents))
    ⊎ ((in_turn a seen s ≡ true) × (is_aside a s ≡ false) × Differ o (Some s) next d)

-- What was seen, the newest first, stands for the first n lines of a trace, the oldest first.
abbrev pub StandsFor : TraceOptions → Option ℕ → List Seen → List Seen → ℕ → Type 0
StandsFor o a seen trace n = (n ≤ length trace) × ReadsTrace o a seen (reverse (take n trace))

-- What was seen, the newest first, stands for a trace, the oldest first, before place n, from 0, and this differs
-- there: it ends, or what was seen next.
abbrev pub DifferFirst : TraceOptions → Option ℕ → List Seen → List Seen → ℕ → Difference → Type 0
DifferFirst o a seen trace n d =
    (StandsFor o a seen trace n × (n < length trace) × (d ≡ HistoryEnds))
    ⊎ ((later before : List Seen) × (s : Seen) × (seen ≡ later ++ (s ∷ before)) × StandsFor o a before trace n
    × DiffersBehind o a before s (slice_get trace n) d)

-- it stands for this line of a trace, or this is what differs
abbrev pub Distinguishes : TraceOptions → Seen → Seen → Option Difference → Type 0
Distinguishes o s t None = ReadsAs o s t
Distinguishes o s t (Some d) = ThingsDiffer o s t d
