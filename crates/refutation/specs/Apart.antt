-- What a trace lacks where contents are unknown: the completions of one queue pair more, which come first.
use Rattle.std.specs.Prelude.{Bool, List, [], if◌then◌else◌, not, ℕ, ◌&&◌, ◌==◌, ◌||◌}
use Rattle.nvme_model.specs.Array.{zeros}
use Rattle.nvme_model.specs.declared.config.ConfigNumbers.{ConfigNumbers}
use Rattle.trace.specs.Aside.{aside_pair, is_aside}
use Rattle.trace.specs.declared.options.TraceOptions.{TraceOptions}
use Rattle.trace.specs.declared.seen.Seen.{Seen}

-- The trace has each completion of its completion queues: the pair that it lacks, where it lacks one, has a completion
-- queue of its own.
abbrev pub is_apart : TraceOptions → ConfigNumbers → Bool
is_apart o c = not o.contents_unknown || (c.cqs == c.pairs)

-- The line is one of the pair that the trace lacks.
abbrev pub is_lacked : TraceOptions → ConfigNumbers → Seen → Bool
is_lacked o c s = is_aside (aside_pair o c) s

-- The submission queue isn't that of the pair that the trace lacks.
abbrev pub is_own_queue : TraceOptions → ConfigNumbers → ℕ → Bool
is_own_queue o c q = not (o.contents_unknown && (q == c.pairs))

-- SQHD tells of the order of effects: it isn't ignored, and the trace has all completions.
abbrev pub asks_heads : TraceOptions → Bool
asks_heads o = not o.contents_unknown && not o.ignored.sqhd

-- What blocks hold that nothing of a trace wrote: zeros, or what isn't known, for which no bytes stand.
abbrev pub held_at_first : TraceOptions → List ℕ
held_at_first o = if o.contents_unknown then [] else zeros
