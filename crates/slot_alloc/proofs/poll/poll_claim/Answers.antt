use Rattle.std.proofs.Common.{None, subst, Ok, Some, ap, inl, refl, ◌≡◌, sym, ◌∙◌}
use Rattle.driver_calls.specs.declared.reply.Reply.{Reply}
use Rattle.driver_cas.specs.Drivers.{SaysOfPort}
use Rattle.driver_cas.specs.declared.call.Call.{Call}
use Rattle.slot_alloc.proofs.Counting.{behind_asked, counts_polled}
use Rattle.slot_alloc.proofs.Polling.{Polls, by_stage, claiming_polled, differs_ended, ended_polled, failed_polled}
use Rattle.slot_alloc.proofs.Polling.{goes_on_on, goes_on_polled, held_polled, lost_polled}
use Rattle.slot_alloc.proofs.Polling.{still_polled, waiting_polled, won_polled}
use Rattle.slot_alloc.specs.Progresses.{IsBesideClaim, IsLost, IsLostOn}
use Rattle.slot_alloc.specs.declared.claiming.ClaimStage.{ClaimStage}
use Rattle.slot_alloc.proofs.Drawn.{drawn_on}
use Rattle.slot_alloc.proofs.poll.poll_claim.Goals as goal
use Rattle.slot_alloc.proofs.NextSlots.{lost_held, polled_lost}

pub returns-in-Pending-clause-goes_on : goal.returns-in-Pending-clause-goes_on
returns-in-Pending-clause-goes_on g c =
    let x = c.poll.ensures in
    goes_on_polled g.P.Port c.args.driver.now c.poll.new.self (record { same = x.same; later = x.later; one = x.one })

pub returns-in-Pending-clause-is : goal.returns-in-Pending-clause-is
returns-in-Pending-clause-is g c =
    let x = c.poll.ensures in
    let y = c.in-Pending in
    let k = c.args.claiming in
    let call = c.in-Asked.call in
    let serial = c.in-Asked.serial in
    by_stage g.P.Port c.args.driver.now c.poll.new.self k call serial _ (sym c.replace.ensures.value ∙ c.in-Asked.is)
    (inl (waiting_polled g.P.Port c.args.driver.now c.poll.new.self k call y.call serial None
    (sym c.replace.ensures.value ∙ c.in-Asked.is) y.ensures.back
    (record { same = x.same; later = x.later; one = x.one }) y.ensures.asks y.ensures.answer))

pub returns-in-Pending-clause-of : goal.returns-in-Pending-clause-of
returns-in-Pending-clause-of g c =
    let x = c.poll.ensures in
    let y = c.in-Pending in
    let serial = c.in-Asked.serial in
    claiming_polled g.P.Port g.met.P.Port.goes_on c.args.driver.now c.poll.new.self c.args.claiming y.call serial
    c.requires.of (sym c.replace.ensures.value ∙ c.in-Asked.is
    ∙ ap (λ (k : Call _). ClaimStage.Asked k serial) (sym y.ensures.back))
    (record { same = x.same; later = x.later; one = x.one }) y.ensures.stays

pub returns-in-Pending-clause-unreleased : goal.returns-in-Pending-clause-unreleased
returns-in-Pending-clause-unreleased g c = λ slot_rules unreleased.
    let x = c.poll.ensures in
    let y = c.in-Pending in
    let serial = c.in-Asked.serial in
    still_polled g.P.Port c.args.driver.now c.poll.new.self c.args.claiming y.call serial c.requires.of
    (sym c.replace.ensures.value ∙ c.in-Asked.is ∙ ap (λ (k : Call _). ClaimStage.Asked k serial) (sym y.ensures.back))
    (record { same = x.same; later = x.later; one = x.one }) unreleased

pub returns-in-Pending-clause-drawn : goal.returns-in-Pending-clause-drawn
returns-in-Pending-clause-drawn g c = λ drawn unreleased.
    let x = c.poll.ensures in
    let y = c.in-Pending in
    let serial = c.in-Asked.serial in
    still_polled g.P.Port c.args.driver.now c.poll.new.self c.args.claiming y.call serial c.requires.of
    (sym c.replace.ensures.value ∙ c.in-Asked.is ∙ ap (λ (k : Call _). ClaimStage.Asked k serial) (sym y.ensures.back))
    (record { same = x.same; later = x.later; one = x.one }) unreleased

pub returns-in-Later-clause-unreleased : goal.returns-in-Later-clause-unreleased
returns-in-Later-clause-unreleased g c = λ slot_rules unreleased.
    let x = c.poll.ensures in
    let y = c.in-Later in
    let serial = c.in-Asked.serial in
    still_polled g.P.Port c.args.driver.now c.poll.new.self c.args.claiming y.call serial c.requires.of
    (sym c.replace.ensures.value ∙ c.in-Asked.is
    ∙ ap (λ (k : Call _). ClaimStage.Asked k serial) (sym y.ensures.back.0))
    (record { same = x.same; later = x.later; one = x.one }) unreleased

pub returns-in-Later-clause-drawn : goal.returns-in-Later-clause-drawn
returns-in-Later-clause-drawn g c = λ drawn unreleased.
    let x = c.poll.ensures in
    let y = c.in-Later in
    let serial = c.in-Asked.serial in
    still_polled g.P.Port c.args.driver.now c.poll.new.self c.args.claiming y.call serial c.requires.of
    (sym c.replace.ensures.value ∙ c.in-Asked.is
    ∙ ap (λ (k : Call _). ClaimStage.Asked k serial) (sym y.ensures.back.0))
    (record { same = x.same; later = x.later; one = x.one }) unreleased

pub returns-in-Later-clause-goes_on : goal.returns-in-Later-clause-goes_on
returns-in-Later-clause-goes_on g c =
    let x = c.poll.ensures in
    goes_on_polled g.P.Port c.args.driver.now c.poll.new.self (record { same = x.same; later = x.later; one = x.one })

pub returns-in-Later-clause-is : goal.returns-in-Later-clause-is
returns-in-Later-clause-is g c =
    let x = c.poll.ensures in
    let y = c.in-Later in
    let k = c.args.claiming in
    let call = c.in-Asked.call in
    let serial = c.in-Asked.serial in
    by_stage g.P.Port c.args.driver.now c.poll.new.self k call serial _ (sym c.replace.ensures.value ∙ c.in-Asked.is)
    (inl (
      (waiting_polled g.P.Port c.args.driver.now c.poll.new.self k call y.call serial (Some y.fault)
          (sym c.replace.ensures.value ∙ c.in-Asked.is) y.ensures.back.0
          (record { same = x.same; later = x.later; one = x.one }) y.ensures.asks y.ensures.answer),
      y.ensures.back.1,
    ))

pub returns-in-Later-clause-of : goal.returns-in-Later-clause-of
returns-in-Later-clause-of g c =
    let x = c.poll.ensures in
    let y = c.in-Later in
    let serial = c.in-Asked.serial in
    claiming_polled g.P.Port g.met.P.Port.goes_on c.args.driver.now c.poll.new.self c.args.claiming y.call serial
    c.requires.of (sym c.replace.ensures.value ∙ c.in-Asked.is
    ∙ ap (λ (k : Call _). ClaimStage.Asked k serial) (sym y.ensures.back.0))
    (record { same = x.same; later = x.later; one = x.one }) y.ensures.stays

pub next-requires : goal.next-requires
next-requires g c =
    let x = c.poll.ensures in
    let y = c.in-Done in
    let k = c.args.claiming in
    let call = c.in-Asked.call in
    let serial = c.in-Asked.serial in
    let polls : Polls g.P.Port c.args.driver.now c.poll.new.self =
    record { same = x.same; later = x.later; one = x.one } in
    record {
      lost = subst (λ (z : ClaimStage _ × Call _).
          IsLost c.poll.new.self (record {
            slots = k.slots;
            reach = k.reach;
            slot = k.slot;
            stage = z.0;
            began = k.began;
            lower = k.lower;
          }) z.1 serial)
          (λ i. (sym c.replace.ensures.after i, sym c.of-asked.ensures i))
          (lost_polled g.P.Port g.met.P.Port.goes_on c.args.driver.now c.poll.new.self k call serial c.requires.of polls
          (differs_ended g.P.Port g.met.P.Port.stays c.args.driver.now c.poll.new.self k call serial y.reply
          c.requires.of (sym c.replace.ensures.value ∙ c.in-Asked.is) polls y.ensures.asks
          (c.is_swapped.ensures.no_other c.if-is_swapped.false) (sym y.ensures.answer) y.ensures.says));
    }

pub returns-in-Failed-clause-goes_on : goal.returns-in-Failed-clause-goes_on
returns-in-Failed-clause-goes_on g c =
    let x = c.poll.ensures in
    goes_on_polled g.P.Port c.args.driver.now c.poll.new.self (record { same = x.same; later = x.later; one = x.one })

pub returns-in-Failed-clause-is : goal.returns-in-Failed-clause-is
returns-in-Failed-clause-is g c =
    let x = c.poll.ensures in
    let y = c.in-Failed in
    let is = sym c.replace.ensures.value ∙ c.in-Asked.is in
    by_stage g.P.Port c.args.driver.now c.poll.new.self c.args.claiming c.in-Asked.call c.in-Asked.serial _ is
    (failed_polled g.P.Port g.met.P.Port.stays c.args.driver.now c.poll.new.self c.args.claiming c.in-Asked.call
    c.in-Asked.serial y.fault c.requires.of is (record { same = x.same; later = x.later; one = x.one })
    y.ensures.asks y.ensures.back y.ensures.answer y.ensures.says)

pub returns-then-is_swapped-clause-goes_on : goal.returns-then-is_swapped-clause-goes_on
returns-then-is_swapped-clause-goes_on g c =
    let x = c.poll.ensures in
    goes_on_polled g.P.Port c.args.driver.now c.poll.new.self (record { same = x.same; later = x.later; one = x.one })

pub returns-then-is_swapped-clause-is : goal.returns-then-is_swapped-clause-is
returns-then-is_swapped-clause-is g c =
    let x = c.poll.ensures in
    let y = c.in-Done in
    let k = c.args.claiming in
    let call = c.in-Asked.call in
    let serial = c.in-Asked.serial in
    let yes : y.reply ≡ Reply.Swapped = c.is_swapped.ensures.yes c.if-is_swapped.true in
    let is = sym c.replace.ensures.value ∙ c.in-Asked.is in
    let polls : Polls g.P.Port c.args.driver.now c.poll.new.self =
    record { same = x.same; later = x.later; one = x.one } in
    let answer = sym y.ensures.answer ∙ ap (λ (r : Reply). Some (Ok r)) yes in
    by_stage g.P.Port c.args.driver.now c.poll.new.self k call serial _ is (
      refl,
      refl,
      ended_polled g.P.Port g.met.P.Port.stays c.args.driver.now c.poll.new.self k call serial (Ok Reply.Swapped)
          c.requires.of is polls y.ensures.asks answer
          (subst (λ (r : Reply). SaysOfPort c.poll.new.self call (Some (Ok r))) yes y.ensures.says),
      won_polled g.P.Port c.args.driver.now c.poll.new.self k call serial c.requires.of is polls answer,
    )

pub returns-then-is_swapped-clause-held : goal.returns-then-is_swapped-clause-held
returns-then-is_swapped-clause-held g c = λ unreleased.
    let x = c.poll.ensures in
    let y = c.in-Done in
    let k = c.args.claiming in
    let call = c.in-Asked.call in
    let serial = c.in-Asked.serial in
    let yes : y.reply ≡ Reply.Swapped = c.is_swapped.ensures.yes c.if-is_swapped.true in
    let is = sym c.replace.ensures.value ∙ c.in-Asked.is in
    let polls : Polls g.P.Port c.args.driver.now c.poll.new.self =
    record { same = x.same; later = x.later; one = x.one } in
    held_polled g.P.Port c.args.driver.now c.poll.new.self k call serial c.requires.of is polls
    (won_polled g.P.Port c.args.driver.now c.poll.new.self k call serial c.requires.of is polls
    (sym y.ensures.answer ∙ ap (λ (r : Reply). Some (Ok r)) yes)) unreleased

pub returns-else-is_swapped-clause-goes_on : goal.returns-else-is_swapped-clause-goes_on
returns-else-is_swapped-clause-goes_on g c =
    let x = c.poll.ensures in
    goes_on_on g.P.Port g.met.P.Port.goes_on c.args.driver.now c.poll.new.self c.next.new.driver
    (goes_on_polled g.P.Port c.args.driver.now c.poll.new.self (record { same = x.same; later = x.later; one = x.one }))
    c.next.ensures.goes_on

pub returns-else-is_swapped-clause-drawn : goal.returns-else-is_swapped-clause-drawn
returns-else-is_swapped-clause-drawn g c = λ drawn unreleased.
    let x = c.poll.ensures in
    c.next.ensures.drawn (drawn_on g.P.Port c.args.driver.now c.poll.new.self
    (goes_on_polled g.P.Port c.args.driver.now c.poll.new.self (record { same = x.same; later = x.later; one = x.one }))
    drawn)

pub returns-else-is_swapped-clause-held : goal.returns-else-is_swapped-clause-held
returns-else-is_swapped-clause-held g c =
    λ unreleased. lost_held g.P.Port c.poll.new.self c.next.new.driver _ _ _ c.next.result c.next.ensures.is

pub returns-else-is_swapped-clause-is : goal.returns-else-is_swapped-clause-is
returns-else-is_swapped-clause-is g c =
    let x = c.poll.ensures in
    let y = c.in-Done in
    let k = c.args.claiming in
    let call = c.in-Asked.call in
    let serial = c.in-Asked.serial in
    let e = c.poll.new.self in
    let f = c.next.new.driver in
    let is = sym c.replace.ensures.value ∙ c.in-Asked.is in
    by_stage g.P.Port c.args.driver.now f k call serial c.next.result is
    (polled_lost g.P.Port c.args.driver.now e f k call serial c.next.result
    (differs_ended g.P.Port g.met.P.Port.stays c.args.driver.now e k call serial y.reply c.requires.of is
    (record { same = x.same; later = x.later; one = x.one }) y.ensures.asks
    (c.is_swapped.ensures.no_other c.if-is_swapped.false) (sym y.ensures.answer) y.ensures.says)
    (subst (λ (z : ClaimStage _ × Call _).
    IsLostOn e f (record {
      slots = k.slots;
      reach = k.reach;
      slot = k.slot;
      stage = z.0;
      began = k.began;
      lower = k.lower;
    }) z.1 serial c.next.result) (λ i. (c.replace.ensures.after i, c.of-asked.ensures i))
    c.next.ensures.is))

pub returns-in-Pending-clause-claims : goal.returns-in-Pending-clause-claims
returns-in-Pending-clause-claims g c = λ i past.
    let x = c.poll.ensures in (
      counts_polled g.P.Port c.args.driver.now c.poll.new.self
          (record { same = x.same; later = x.later; one = x.one }) i,
      behind_asked g.P.Port i c.args.claiming.slot c.in-Asked.call c.in-Asked.serial c.args.claiming.stage
          (sym c.replace.ensures.value ∙ c.in-Asked.is) past,
    )

pub returns-in-Later-clause-claims : goal.returns-in-Later-clause-claims
returns-in-Later-clause-claims g c = λ i past.
    let x = c.poll.ensures in (
      counts_polled g.P.Port c.args.driver.now c.poll.new.self
          (record { same = x.same; later = x.later; one = x.one }) i,
      behind_asked g.P.Port i c.args.claiming.slot c.in-Asked.call c.in-Asked.serial c.args.claiming.stage
          (sym c.replace.ensures.value ∙ c.in-Asked.is) past,
    )

pub returns-in-Failed-clause-claims : goal.returns-in-Failed-clause-claims
returns-in-Failed-clause-claims g c = λ i past.
    let x = c.poll.ensures in (
      counts_polled g.P.Port c.args.driver.now c.poll.new.self
          (record { same = x.same; later = x.later; one = x.one }) i,
      tt,
    )

pub returns-then-is_swapped-clause-claims : goal.returns-then-is_swapped-clause-claims
returns-then-is_swapped-clause-claims g c = λ i past.
    let x = c.poll.ensures in (
      counts_polled g.P.Port c.args.driver.now c.poll.new.self
          (record { same = x.same; later = x.later; one = x.one }) i,
      tt,
    )

pub returns-else-is_swapped-clause-claims : goal.returns-else-is_swapped-clause-claims
returns-else-is_swapped-clause-claims g c = λ i past.
    let x = c.poll.ensures in
    let y = c.next.ensures.claims i (behind_asked g.P.Port i c.args.claiming.slot c.in-Asked.call c.in-Asked.serial
    c.args.claiming.stage (sym c.replace.ensures.value ∙ c.in-Asked.is) past) in (
      y.0 ∙ counts_polled g.P.Port c.args.driver.now c.poll.new.self
          (record { same = x.same; later = x.later; one = x.one }) i,
      y.1,
    )

pub returns-else-is_swapped-clause-others : goal.returns-else-is_swapped-clause-others
returns-else-is_swapped-clause-others g c = λ other of beside. c.next.ensures.others other
    (c.poll.ensures.others other of (subst (λ (s : ClaimStage _). IsBesideClaim s other)
    (sym c.replace.ensures.value ∙ c.in-Asked.is) beside))
