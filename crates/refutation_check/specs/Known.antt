-- A trace, the oldest line first, with its tables.
use Rattle.std.specs.Prelude.{List, reverse, true, ◌≡◌}
use Rattle.nvme_model.specs.declared.config.ConfigNumbers.{ConfigNumbers}
use Rattle.trace.specs.declared.options.TraceOptions.{TraceOptions}
use Rattle.trace.specs.declared.seen.Seen.{Seen}
use Rattle.refutation.specs.Apart.{asks_heads}
use Rattle.refutation_check.specs.Answers.{KnowsAnswers, answers_in}
use Rattle.refutation_check.specs.ToldHeads.{heads_in}
use Rattle.refutation_check.specs.declared.known.Known.{Known}

-- how it is read
abbrev pub options_of : Known → TraceOptions
options_of k = k.options.now

-- its controller's configuration
abbrev pub config_of : Known → ConfigNumbers
config_of k = k.config.now

-- its lines, the newest first
abbrev pub trace_of : Known → List Seen
trace_of k = reverse k.trace.now

-- The tables are this trace's, and where SQHD is asked, what SQHD tells is.
pub record IsKnown (k : Known) : Type 0 where
  pub answers : KnowsAnswers (trace_of k) (answers_in k.tables.now)
  pub heads : asks_heads (options_of k) ≡ true → k.heads.now ≡ heads_in (config_of k) (trace_of k)
