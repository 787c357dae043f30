use Rattle.refutation.proofs.OwnRules.{nothing_reads}
use Rattle.refutation.proofs.line_laws.no_history_explains_a_bad_line_as_read.Goals as goal

pub returns : goal.returns
returns c = nothing_reads
