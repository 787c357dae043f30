use Rattle.std.proofs.Common.{Ok, Some, ap, inr, refl, subst, sym, ◌∙◌}
use Rattle.driver_calls.specs.declared.reply.Reply.{Reply}
use Rattle.driver_cas.specs.Drivers.{IsCallOf, SaysOfPort}
use Rattle.driver_cas.specs.declared.call.Call.{Call}
use Rattle.slot_alloc.proofs.Counting.{counts_polled}
use Rattle.slot_alloc.proofs.GivingBack.{differs_polled, failed_release, releasing_polled, same_releasing}
use Rattle.slot_alloc.proofs.Polling.{goes_on_polled}
use Rattle.slot_alloc.specs.Claims.{IsReleasingOf}
use Rattle.slot_alloc.specs.declared.release.Releasing.{Releasing}
use Rattle.slot_alloc.proofs.release.poll_release.Goals as goal

pub returns-in-Failed-clause-is : goal.returns-in-Failed-clause-is
returns-in-Failed-clause-is g c =
    let y = c.in-Failed in
    failed_release g.P.Port c.poll.new.self c.args.releasing y.fault y.ensures.back y.ensures.answer y.ensures.says

pub returns-in-Failed-clause-goes_on : goal.returns-in-Failed-clause-goes_on
returns-in-Failed-clause-goes_on g c =
    let x = c.poll.ensures in
    goes_on_polled g.P.Port c.args.driver.now c.poll.new.self (record { same = x.same; later = x.later; one = x.one })

pub returns-then-is_swapped-clause-goes_on : goal.returns-then-is_swapped-clause-goes_on
returns-then-is_swapped-clause-goes_on g c =
    let x = c.poll.ensures in
    goes_on_polled g.P.Port c.args.driver.now c.poll.new.self (record { same = x.same; later = x.later; one = x.one })

pub returns-else-is_swapped-clause-goes_on : goal.returns-else-is_swapped-clause-goes_on
returns-else-is_swapped-clause-goes_on g c =
    let x = c.poll.ensures in
    goes_on_polled g.P.Port c.args.driver.now c.poll.new.self (record { same = x.same; later = x.later; one = x.one })

pub returns-in-Pending-clause-goes_on : goal.returns-in-Pending-clause-goes_on
returns-in-Pending-clause-goes_on g c =
    let x = c.poll.ensures in
    goes_on_polled g.P.Port c.args.driver.now c.poll.new.self (record { same = x.same; later = x.later; one = x.one })

pub returns-in-Later-clause-goes_on : goal.returns-in-Later-clause-goes_on
returns-in-Later-clause-goes_on g c =
    let x = c.poll.ensures in
    goes_on_polled g.P.Port c.args.driver.now c.poll.new.self (record { same = x.same; later = x.later; one = x.one })

pub returns-in-Pending-clause-is : goal.returns-in-Pending-clause-is
returns-in-Pending-clause-is g c =
    let d = c.args.driver.now in
    let e = c.poll.new.self in
    let k = c.args.releasing in
    let x = c.poll.ensures in
    let y = c.in-Pending in
    let same = same_releasing g.P.Port k y.call y.ensures.back in (
      same,
      subst (λ (j : Releasing _). IsReleasingOf e j) (sym same)
          (releasing_polled g.P.Port d e k c.requires.of (record { same = x.same; later = x.later; one = x.one })
          (subst (λ (j : Call _). IsCallOf e j) y.ensures.back y.ensures.stays)),
      sym y.ensures.answer,
    )

pub returns-in-Later-clause-is : goal.returns-in-Later-clause-is
returns-in-Later-clause-is g c =
    let d = c.args.driver.now in
    let e = c.poll.new.self in
    let k = c.args.releasing in
    let x = c.poll.ensures in
    let y = c.in-Later in
    let same = same_releasing g.P.Port k y.call y.ensures.back.0 in (
      same,
      subst (λ (j : Releasing _). IsReleasingOf e j) (sym same)
          (releasing_polled g.P.Port d e k c.requires.of (record { same = x.same; later = x.later; one = x.one })
          (subst (λ (j : Call _). IsCallOf e j) y.ensures.back.0 y.ensures.stays)),
      y.ensures.back.1,
      sym y.ensures.answer,
    )

pub returns-else-is_swapped-clause-is : goal.returns-else-is_swapped-clause-is
returns-else-is_swapped-clause-is g c =
    let e = c.poll.new.self in
    let k = c.args.releasing in
    let y = c.in-Done in
    let differs = differs_polled g.P.Port c.args.driver.now e k y.reply c.requires.of
    (c.is_swapped.ensures.no_other c.if-is_swapped.false) (sym y.ensures.answer) in
    inr (
      refl,
      (
        sym y.ensures.answer ∙ ap (λ (r : Reply). Some (Ok r)) differs,
        subst (λ (r : Reply). SaysOfPort e k.call (Some (Ok r))) differs y.ensures.says,
      ),
    )

pub returns-in-Failed-clause-claims : goal.returns-in-Failed-clause-claims
returns-in-Failed-clause-claims g c =
    let x = c.poll.ensures in
    counts_polled g.P.Port c.args.driver.now c.poll.new.self (record { same = x.same; later = x.later; one = x.one })

pub returns-then-is_swapped-clause-claims : goal.returns-then-is_swapped-clause-claims
returns-then-is_swapped-clause-claims g c =
    let x = c.poll.ensures in
    counts_polled g.P.Port c.args.driver.now c.poll.new.self (record { same = x.same; later = x.later; one = x.one })

pub returns-else-is_swapped-clause-claims : goal.returns-else-is_swapped-clause-claims
returns-else-is_swapped-clause-claims g c =
    let x = c.poll.ensures in
    counts_polled g.P.Port c.args.driver.now c.poll.new.self (record { same = x.same; later = x.later; one = x.one })

pub returns-in-Pending-clause-claims : goal.returns-in-Pending-clause-claims
returns-in-Pending-clause-claims g c =
    let x = c.poll.ensures in
    counts_polled g.P.Port c.args.driver.now c.poll.new.self (record { same = x.same; later = x.later; one = x.one })

pub returns-in-Later-clause-claims : goal.returns-in-Later-clause-claims
returns-in-Later-clause-claims g c =
    let x = c.poll.ensures in
    counts_polled g.P.Port c.args.driver.now c.poll.new.self (record { same = x.same; later = x.later; one = x.one })
