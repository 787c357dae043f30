use Rattle.refutation.proofs.LastLine.{explained_reap}
use Rattle.refutation.proofs.LineRules.{bits_unset}
use Rattle.refutation.proofs.line_laws.no_completion_sets_unused_bits.Goals as goal

pub returns : goal.returns
returns c = λ n past r trace h. bits_unset n r trace (explained_reap n past r trace h)
