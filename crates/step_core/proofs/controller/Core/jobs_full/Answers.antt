use Rattle.std.proofs.Common.{ap, ◌∙◌}
use Rattle.nvme_model.specs.Refusals.{jobs_full}
use Rattle.controller_interface.specs.State.{ControllerState}
use Rattle.step_core.proofs.Fetching.{full_is}
use Rattle.step_core.proofs.controller.Core.jobs_full.Goals as goal

pub returns : goal.returns
returns c = record {
  value = c.is_full.ensures.value ∙ full_is _ _ _ c.self.invariant.0 c.is_full.ensures.most
      ∙ ap (λ (x : ControllerState). jobs_full x.config x.past) c.self.view_is;
}
