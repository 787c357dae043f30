use Rattle.std.proofs.Common.{◌≡◌, ap, false, refl, subst, sym, ◌∙◌}
use Rattle.std.specs.Option.{option_copied}
use Rattle.nvme_model.specs.Tickets.{in_flight}
use Rattle.step_core.specs.Found.{IsJob}
use Rattle.controller_interface.specs.State.{ControllerState}
use Rattle.step_core.proofs.Lookups.{job_absent, job_there}
use Rattle.step_core.proofs.controller.Core.job.Goals as goal

pub returns-in-Some : goal.returns-in-Some
returns-in-Some c = record {
  value = subst (λ (x : ControllerState). IsJob x.config x.past c.args.ticket c.in-Some.job.now) c.self.view_is
      (job_there _ _ _ c.self.invariant.0 c.args.ticket c.in-Some.job.now
      (sym (ap option_copied c.in-Some.is) ∙ c.get.ensures.value));
}

pub returns-in-None : goal.returns-in-None
returns-in-None c = record {
  value = (
    subst (λ (x : ControllerState). in_flight x.past c.args.ticket ≡ false) c.self.view_is
        (job_absent _ _ _ c.self.invariant.0 c.args.ticket (sym (ap option_copied c.in-None.is) ∙ c.get.ensures.value)),
    refl,
  );
}
