-- What is said of a trace that a history was looked for.
use Rattle.std.specs.Prelude.{List, reverse}
use Rattle.nvme_model.specs.declared.config.ConfigNumbers.{ConfigNumbers}
use Rattle.trace.specs.Observed.{Explains}
use Rattle.trace.specs.declared.options.TraceOptions.{TraceOptions}
use Rattle.trace.specs.declared.seen.Seen.{Seen}
use Rattle.trace_search.specs.declared.observing.Observed.{Observed}
use Rattle.trace_search.specs.declared.observing.Observed.TheVariants.{Explained, GaveUp, NotFound}

-- where it is said that a history explains a trace, the newest first, it does; nothing is promised of anything else
abbrev pub IsExplained : TraceOptions → ConfigNumbers → List Seen → Observed → Type 0
IsExplained o c trace (Explained entries) = Explains o c (reverse entries.items) trace
IsExplained o c trace (NotFound why) = Unit {0}
IsExplained o c trace GaveUp = Unit {0}
