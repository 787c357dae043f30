use Rattle.refutation.proofs.LastLine.{explained_publish}
use Rattle.refutation.proofs.LineRules.{batch_right}
use Rattle.refutation.proofs.line_laws.no_publish_has_a_wrong_batch.Goals as goal

pub returns : goal.returns
returns c = λ n past p trace h. batch_right n p trace (explained_publish n past p trace h)
