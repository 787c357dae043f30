use Rattle.std.proofs.Common.{subst}
use Rattle.nvme_model.proofs.OneAtATime.{one_at_a_time}
use Rattle.step_core.proofs.Whole.{KeptBy}
use Rattle.step_core.proofs.controller.Core.tells_kept.Goals as goal

pub returns-clause-array : goal.returns-clause-array
returns-clause-array c = one_at_a_time _ _ (subst KeptBy c.self.view_is c.self.invariant.0.run).legal
