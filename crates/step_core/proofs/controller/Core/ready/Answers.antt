use Rattle.std.proofs.Common.{sym}
use Rattle.nvme_model.proofs.NeverStuck.{never_stuck}
use Rattle.step_core.proofs.controller.Core.ready.Goals as goal

pub returns-in-None-clause-stuck : goal.returns-in-None-clause-stuck
returns-in-None-clause-stuck c =
    λ t f. never_stuck c.args.self.now.config c.args.self.now.past t c.next.ensures.kept.legal
    (sym c.in-None.ensures.step) f
