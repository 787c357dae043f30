-- One thing alone differs first between two things.
use Rattle.std.proofs.Common.{◌≡◌, Option, Some, None, refl, sym, ◌∙◌}
use Rattle.nvme_model.specs.declared.entry.PublishLine.{PublishLine}
use Rattle.trace.specs.Options.{ReadsAs, ReadsPublish, ReadsReap}
use Rattle.trace.specs.declared.options.TraceOptions.{TraceOptions}
use Rattle.trace.specs.declared.seen.ReapedLine.{ReapedLine}
use Rattle.trace.specs.declared.seen.Seen.{Seen}
use Rattle.witness_check.specs.Differing.{Differ, PublishesDiffer, ReapsDiffer}
use Rattle.witness_check.specs.declared.difference.Difference.{Difference}
use Rattle.witness_check.specs.declared.difference.Difference.TheVariants.{Batch, Completion, Contents, Data}
use Rattle.witness_check.specs.declared.difference.Difference.TheVariants.{HistoryEnds, Kind, Order, Queue, TraceEnds}

-- ---- nothing differs from what it stands for

alike_publish : (o : TraceOptions) (p t : PublishLine) (d : Difference) → ReadsPublish o p t
    → PublishesDiffer o p t d → ⊥
alike_publish o p t Queue e h = h e.0
alike_publish o p t Batch e h = h.1 e.1
alike_publish o p t TraceEnds e h = h
alike_publish o p t HistoryEnds e h = h
alike_publish o p t Kind e h = h
alike_publish o p t Completion e h = h
alike_publish o p t Data e h = h
alike_publish o p t Contents e h = h
alike_publish o p t Order e h = h

alike_reap : (o : TraceOptions) (r t : ReapedLine) (d : Difference) → ReadsReap o r t → ReapsDiffer o r t d → ⊥
alike_reap o r t Queue e h = h e.0
alike_reap o r t Completion e h = h.1 e.1
alike_reap o r t Data e h = h.2 e.2
alike_reap o r t TraceEnds e h = h
alike_reap o r t HistoryEnds e h = h
alike_reap o r t Kind e h = h
alike_reap o r t Batch e h = h
alike_reap o r t Contents e h = h
alike_reap o r t Order e h = h

pub alike : (o : TraceOptions) (s t : Seen) (d : Difference) → ReadsAs o s t → Differ o (Some s) (Some t) d → ⊥
alike o (Seen.Published p) (Seen.Published t) d e h = alike_publish o p t d e h
alike o (Seen.Published p) (Seen.Reaped t) d e h = absurd e
alike o (Seen.Reaped r) (Seen.Published t) d e h = absurd e
alike o (Seen.Reaped r) (Seen.Reaped t) d e h = alike_reap o r t d e h

-- ---- one thing differs first

one_publish : (o : TraceOptions) (p t : PublishLine) (d e : Difference) → PublishesDiffer o p t d
    → PublishesDiffer o p t e → d ≡ e
one_publish o p t Queue Queue h g = refl
one_publish o p t Queue Batch h g = absurd (h g.0)
one_publish o p t Batch Queue h g = absurd (g h.0)
one_publish o p t Batch Batch h g = refl
one_publish o p t Queue TraceEnds h g = absurd g
one_publish o p t Queue HistoryEnds h g = absurd g
one_publish o p t Queue Kind h g = absurd g
one_publish o p t Queue Completion h g = absurd g
one_publish o p t Queue Data h g = absurd g
one_publish o p t Queue Contents h g = absurd g
one_publish o p t Queue Order h g = absurd g
one_publish o p t Batch TraceEnds h g = absurd g
one_publish o p t Batch HistoryEnds h g = absurd g
one_publish o p t Batch Kind h g = absurd g
one_publish o p t Batch Completion h g = absurd g
one_publish o p t Batch Data h g = absurd g
one_publish o p t Batch Contents h g = absurd g
one_publish o p t Batch Order h g = absurd g
one_publish o p t TraceEnds e h g = absurd h
one_publish o p t HistoryEnds e h g = absurd h
one_publish o p t Kind e h g = absurd h
one_publish o p t Completion e h g = absurd h
one_publish o p t Data e h g = absurd h
one_publish o p t Contents e h g = absurd h
one_publish o p t Order e h g = absurd h

one_reap : (o : TraceOptions) (r t : ReapedLine) (d e : Difference) → ReapsDiffer o r t d → ReapsDiffer o r t e → d ≡ e
one_reap o r t Queue Queue h g = refl
one_reap o r t Queue Completion h g = absurd (h g.0)
one_reap o r t Queue Data h g = absurd (h g.0)
one_reap o r t Completion Queue h g = absurd (g h.0)
one_reap o r t Completion Completion h g = refl
one_reap o r t Completion Data h g = absurd (h.1 g.1)
one_reap o r t Data Queue h g = absurd (g h.0)
one_reap o r t Data Completion h g = absurd (g.1 h.1)
one_reap o r t Data Data h g = refl
one_reap o r t Queue TraceEnds h g = absurd g
one_reap o r t Queue HistoryEnds h g = absurd g
one_reap o r t Queue Kind h g = absurd g
one_reap o r t Queue Batch h g = absurd g
one_reap o r t Queue Contents h g = absurd g
one_reap o r t Queue Order h g = absurd g
one_reap o r t Completion TraceEnds h g = absurd g
one_reap o r t Completion HistoryEnds h g = absurd g
one_reap o r t Completion Kind h g = absurd g
one_reap o r t Completion Batch h g = absurd g
one_reap o r t Completion Contents h g = absurd g
one_reap o r t Completion Order h g = absurd g
one_reap o r t Data TraceEnds h g = absurd g
one_reap o r t Data HistoryEnds h g = absurd g
one_reap o r t Data Kind h g = absurd g
one_reap o r t Data Batch h g = absurd g
one_reap o r t Data Contents h g = absurd g
one_reap o r t Data Order h g = absurd g
one_reap o r t TraceEnds e h g = absurd h
one_reap o r t HistoryEnds e h g = absurd h
one_reap o r t Kind e h g = absurd h
one_reap o r t Batch e h g = absurd h
one_reap o r t Contents e h g = absurd h
one_reap o r t Order e h g = absurd h

pub one_difference : (o : TraceOptions) (s u : Option Seen) (d e : Difference) → Differ o s u d → Differ o s u e → d ≡ e
one_difference o None None d e h g = absurd h
one_difference o None (Some t) d e h g = h ∙ sym g
one_difference o (Some s) None d e h g = h ∙ sym g
one_difference o (Some (Seen.Published p)) (Some (Seen.Published t)) d e h g = one_publish o p t d e h g
one_difference o (Some (Seen.Published p)) (Some (Seen.Reaped t)) d e h g = h ∙ sym g
one_difference o (Some (Seen.Reaped r)) (Some (Seen.Published t)) d e h g = h ∙ sym g
one_difference o (Some (Seen.Reaped r)) (Some (Seen.Reaped t)) d e h g = one_reap o r t d e h g
