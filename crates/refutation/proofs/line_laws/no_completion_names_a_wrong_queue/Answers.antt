use Rattle.refutation.proofs.LastLine.{explained_reap}
use Rattle.refutation.proofs.LineRules.{queue_right}
use Rattle.refutation.proofs.line_laws.no_completion_names_a_wrong_queue.Goals as goal

pub returns : goal.returns
returns c = λ n past r trace a h. queue_right n r trace a (explained_reap n past r trace h)
