use Rattle.nvme_model.specs.EntryBytes.{cqe_fields}
use Rattle.refutation.proofs.LastLine.{explained_reap}
use Rattle.refutation.proofs.LineRules.{entry_right}
use Rattle.refutation.proofs.Lines.{tidy_each}
use Rattle.refutation.proofs.line_laws.no_completion_names_no_entry.Goals as goal

pub returns : goal.returns
returns c =
    λ n past r trace a h. entry_right n r trace (tidy_each (cqe_fields r.cqe).sqid trace a)
    (explained_reap n past r trace h)
