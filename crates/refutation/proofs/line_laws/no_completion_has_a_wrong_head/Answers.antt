use Rattle.nvme_model.specs.EntryBytes.{cqe_fields}
use Rattle.refutation.proofs.LastLine.{explained_reap}
use Rattle.refutation.proofs.LeastFetched.{head_right}
use Rattle.refutation.proofs.Lines.{tidy_each}
use Rattle.refutation.proofs.line_laws.no_completion_has_a_wrong_head.Goals as goal

pub returns : goal.returns
returns c =
    λ n past r trace a d h. head_right n r trace a (tidy_each (cqe_fields r.cqe).sqid trace d)
    (explained_reap n past r trace h)
