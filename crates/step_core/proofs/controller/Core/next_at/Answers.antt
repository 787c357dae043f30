use Rattle.std.proofs.Common.{ap, sym, ◌∙◌, subst}
use Rattle.std.specs.Option.{option_and_then}
use Rattle.step_core.specs.Found.{IsJob, next_step}
use Rattle.controller_interface.specs.State.{ControllerState}
use Rattle.step_core.proofs.Lookups.{job_nth}
use Rattle.step_core.proofs.Next.{nth_ticket}
use Rattle.step_core.proofs.controller.Core.next_at.Goals as goal

pub next_of-requires : goal.next_of-requires
next_of-requires c = record {
  job = subst (λ (x : ControllerState).
      IsJob x.config x.past c.in_ok-ticket.ticket c.in_ok-ticket.job.now) c.self.view_is
      (job_nth _ _ _ c.self.invariant.0 c.args.place _ c.in_ok-ticket.ensures.value);
}

pub returns-clause-step : goal.returns-clause-step
returns-clause-step c =
    let x = c.args.self.now in
    let at = nth_ticket _ _ _ _ _ c.self.view_is c.self.invariant.0.jobs c.args.place _ c.in_ok-ticket.ensures.value in
    c.next_of.ensures.step ∙ ap (option_and_then (next_step x.config x.past)) (sym at)
