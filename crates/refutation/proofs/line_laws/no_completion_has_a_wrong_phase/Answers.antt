use Rattle.refutation.proofs.LastLine.{explained_reap}
use Rattle.refutation.proofs.LineRules.{phase_right}
use Rattle.refutation.proofs.line_laws.no_completion_has_a_wrong_phase.Goals as goal

pub returns : goal.returns
returns c = λ n past r trace h. phase_right n r trace (explained_reap n past r trace h)
