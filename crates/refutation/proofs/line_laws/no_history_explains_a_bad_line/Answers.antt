use Rattle.refutation.proofs.BadLines.{nothing_explains}
use Rattle.refutation.proofs.line_laws.no_history_explains_a_bad_line.Goals as goal

pub returns : goal.returns
returns c = nothing_explains
