use Rattle.std.proofs.Common.{Ok, Some, ap, refl, subst, sym, ◌∙◌}
use Rattle.driver_calls.specs.declared.reply.Reply.{Reply}
use Rattle.driver_cas.specs.Drivers.{IsCallOf, SaysOfPort}
use Rattle.driver_cas.specs.declared.call.Call.{Call}
use Rattle.slot_takeover.specs.Takeovers.{IsTakingOverOf}
use Rattle.slot_takeover.specs.declared.taking.TakingOver.{TakingOver}
use Rattle.slot_takeover.proofs.Answering.{held_now, same_taking, taking_differs, taking_failed, taking_polled}
use Rattle.slot_takeover.proofs.polling.poll_takeover.Goals as goal

pub returns-in-Pending-clause-is : goal.returns-in-Pending-clause-is
returns-in-Pending-clause-is g c =
    let d = c.args.driver.now in
    let e = c.poll.new.self in
    let k = c.args.taking in
    let x = c.poll.ensures in
    let y = c.in-Pending in
    let same = same_taking g.P.Port k y.call y.ensures.back in (
      same,
      subst (λ (j : TakingOver _). IsTakingOverOf e j) (sym same)
          (taking_polled g.P.Port d e k c.requires.of (record { same = x.same; one = x.one })
          (subst (λ (j : Call _). IsCallOf e j) y.ensures.back y.ensures.stays)),
      sym y.ensures.answer,
    )

pub returns-in-Later-clause-is : goal.returns-in-Later-clause-is
returns-in-Later-clause-is g c =
    let d = c.args.driver.now in
    let e = c.poll.new.self in
    let k = c.args.taking in
    let x = c.poll.ensures in
    let y = c.in-Later in
    let same = same_taking g.P.Port k y.call y.ensures.back.0 in (
      same,
      subst (λ (j : TakingOver _). IsTakingOverOf e j) (sym same)
          (taking_polled g.P.Port d e k c.requires.of (record { same = x.same; one = x.one })
          (subst (λ (j : Call _). IsCallOf e j) y.ensures.back.0 y.ensures.stays)),
      y.ensures.back.1,
      sym y.ensures.answer,
    )

pub returns-then-is_swapped-clause-is : goal.returns-then-is_swapped-clause-is
returns-then-is_swapped-clause-is g c =
    let d = c.args.driver.now in
    let e = c.poll.new.self in
    let k = c.args.taking in
    let x = c.poll.ensures in
    let y = c.in-Done in
    let yes = c.is_swapped.ensures.yes c.if-is_swapped.true in
    let answer = sym y.ensures.answer ∙ ap (λ (r : Reply). Some (Ok r)) yes in (
      refl,
      refl,
      (answer, subst (λ (r : Reply). SaysOfPort e k.call (Some (Ok r))) yes y.ensures.says),
      held_now g.P.Port d e k c.requires.of (record { same = x.same; one = x.one }) answer,
    )

pub returns-else-is_swapped-clause-is : goal.returns-else-is_swapped-clause-is
returns-else-is_swapped-clause-is g c =
    let e = c.poll.new.self in
    let k = c.args.taking in
    let y = c.in-Done in
    let differs = taking_differs g.P.Port c.args.driver.now e k y.reply c.requires.of
    (c.is_swapped.ensures.no_other c.if-is_swapped.false) (sym y.ensures.answer) in (
      c.requires.of.does,
      (
        sym y.ensures.answer ∙ ap (λ (r : Reply). Some (Ok r)) differs,
        subst (λ (r : Reply). SaysOfPort e k.call (Some (Ok r))) differs y.ensures.says,
      ),
    )

pub returns-in-Failed-clause-is : goal.returns-in-Failed-clause-is
returns-in-Failed-clause-is g c =
    let y = c.in-Failed in
    taking_failed g.P.Port c.poll.new.self c.args.taking y.fault y.ensures.back y.ensures.answer y.ensures.says
