use Rattle.nvme_model.proofs.OneAtATime.{one_at_a_time}
use Rattle.step_core.proofs.controller.Core.step_ready.Goals as goal

pub returns-in_err-next-clause-legal : goal.returns-in_err-next-clause-legal
returns-in_err-next-clause-legal c = c.next.ensures.kept.legal

pub returns-in_err-next-clause-array : goal.returns-in_err-next-clause-array
returns-in_err-next-clause-array c = one_at_a_time _ _ c.next.ensures.kept.legal
