use Rattle.std.proofs.Common.{◌+◌, ap, sym, ◌∙◌, subst, arith, drop}
use Rattle.ticket_laws.specs.Standing.{flying}
use Rattle.step_core.proofs.Next.{count_tickets, or_else, ready_among, ready_is, ready_past, step_at}
use Rattle.step_core.proofs.Whole.{KeptBy}
use Rattle.step_core.proofs.controller.Core.next.Goals as goal

pub loop-place-init : goal.loop-place-init
loop-place-init c = ready_is c.args.self.now.config c.args.self.now.past

pub returns-in-Some-clause-step : goal.returns-in-Some-clause-step
returns-in-Some-clause-step c =
    let x = c.args.self.now in
    let rest = ready_among x.config x.past (drop (c.loop-place.place + 1) (flying x.past)) in
    ap (λ o. or_else o rest) c.in-Some.ensures.step ∙ sym (step_at x.config x.past c.loop-place.place (flying x.past))
    ∙ c.loop-place.invariant

pub returns-in-Some-clause-kept : goal.returns-in-Some-clause-kept
returns-in-Some-clause-kept c = subst KeptBy c.self.view_is c.self.invariant.0.run

pub loop-place-preserved : goal.loop-place-preserved
loop-place-preserved c =
    let x = c.args.self.now in
    let rest = ready_among x.config x.past (drop (c.loop-place.place + 1) (flying x.past)) in
    ap (λ o. or_else o rest) c.in_default.ensures.step
    ∙ sym (step_at x.config x.past c.loop-place.place (flying x.past)) ∙ c.loop-place.invariant

pub returns-clause-step : goal.returns-clause-step
returns-clause-step c =
    let x = c.args.self.now in
    let count = count_tickets _ _ _ _ _ c.self.view_is c.self.invariant.0.jobs in
    sym (ready_past x.config x.past c.loop-place.place (flying x.past)
    (omega (arith, count, c.loop-place-test.false, c.len-place-end.ensures.value)))
    ∙ c.loop-place.invariant

pub returns-clause-kept : goal.returns-clause-kept
returns-clause-kept c = subst KeptBy c.self.view_is c.self.invariant.0.run
