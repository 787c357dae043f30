-- What is found.
use Rattle.std.specs.Prelude.{List, true, ◌≡◌}
use Rattle.nvme_model.specs.History.{Past}
use Rattle.nvme_model.specs.declared.config.ConfigNumbers.{ConfigNumbers}
use Rattle.trace.specs.Observed.{Explains}
use Rattle.trace.specs.declared.options.TraceOptions.{TraceOptions}
use Rattle.trace.specs.declared.seen.Seen.{Seen}
use Rattle.refutation.specs.Refutations.{Refutation}
use Rattle.refutation.specs.Refuted.{is_refuted}

-- It refutes a trace, the newest line first, and so no legal history explains that.
pub record Refutes (o : TraceOptions) (c : ConfigNumbers) (trace : List Seen) (r : Refutation) : Type 0 where
  pub is : is_refuted o c trace r.lines r.commands r.blocks ≡ true
  pub none : (past : Past) → Explains o c past trace → ⊥
