use Rattle.std.proofs.Common.{List, Ok, Some, ap, subst, sym, ℕ, ◌∙◌}
use Rattle.std.specs.Prelude.{Contains}
use Rattle.driver_calls.specs.declared.reply.Reply.{Reply}
use Rattle.driver_cas.specs.Drivers.{IsCallOf, SaysOfPort}
use Rattle.driver_cas.specs.declared.call.Call.{Call}
use Rattle.slot_takeover.specs.Holders.{IsReadingOf, payload_of_read, holder_in}
use Rattle.slot_takeover.specs.declared.holder.ReadingHolder.{ReadingHolder}
use Rattle.slot_takeover.proofs.Reading.{is_read, read_there, reading_failed, reading_polled, reads, same_reading}
use Rattle.slot_takeover.proofs.holder.poll_holder.Goals as goal

pub returns-in-Pending-clause-is : goal.returns-in-Pending-clause-is
returns-in-Pending-clause-is g c =
    let d = c.args.driver.now in
    let e = c.poll.new.self in
    let k = c.args.reading in
    let x = c.poll.ensures in
    let y = c.in-Pending in
    let same = same_reading g.P.Port k y.call y.ensures.back in (
      same,
      subst (λ (j : ReadingHolder _). IsReadingOf e j) (sym same)
          (reading_polled g.P.Port d e k c.requires.of (record { same = x.same; one = x.one })
          (subst (λ (j : Call _). IsCallOf e j) y.ensures.back y.ensures.stays)),
      sym y.ensures.answer,
    )

pub returns-in-Later-clause-is : goal.returns-in-Later-clause-is
returns-in-Later-clause-is g c =
    let d = c.args.driver.now in
    let e = c.poll.new.self in
    let k = c.args.reading in
    let x = c.poll.ensures in
    let y = c.in-Later in
    let same = same_reading g.P.Port k y.call y.ensures.back.0 in (
      same,
      subst (λ (j : ReadingHolder _). IsReadingOf e j) (sym same)
          (reading_polled g.P.Port d e k c.requires.of (record { same = x.same; one = x.one })
          (subst (λ (j : Call _). IsCallOf e j) y.ensures.back.0 y.ensures.stays)),
      y.ensures.back.1,
      sym y.ensures.answer,
    )

pub holder_by-requires : goal.holder_by-requires
holder_by-requires g c =
    let y = c.in-Done in
    record {
      read = is_read y.reply
          (reads g.P.Port c.poll.new.self c.args.reading y.reply c.requires.of.does (sym y.ensures.answer));
    }

pub returns-in-Done-clause-is : goal.returns-in-Done-clause-is
returns-in-Done-clause-is g c =
    let d = c.args.driver.now in
    let e = c.poll.new.self in
    let k = c.args.reading in
    let x = c.poll.ensures in
    let y = c.in-Done in
    let of = c.requires.of in
    let r = reads g.P.Port e k y.reply of.does (sym y.ensures.answer) in
    record {
      bytes = r.bytes;
      is = c.holder_by.ensures.value ∙ ap (λ (z : Reply). holder_in (payload_of_read z)) r.is;
      since = g.met.P.Port.goes_on k.call.start.value d.port e.port of.of.later x.later;
      known = subst (λ (qs : List ℕ). Contains qs k.call.queue) (sym x.same.queues) of.of.known;
      reads = read_there g.P.Port d e k of.reads (record { same = x.same; one = x.one });
      answered = (
        sym y.ensures.answer ∙ ap (λ (z : Reply). Some (Ok z)) r.is,
        subst (λ (z : Reply). SaysOfPort e k.call (Some (Ok z))) r.is y.ensures.says,
      );
    }

pub returns-in-Failed-clause-is : goal.returns-in-Failed-clause-is
returns-in-Failed-clause-is g c =
    let y = c.in-Failed in
    reading_failed g.P.Port c.poll.new.self c.args.reading y.fault y.ensures.back y.ensures.answer y.ensures.says
