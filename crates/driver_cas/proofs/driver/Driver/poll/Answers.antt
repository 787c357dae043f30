use Rattle.std.proofs.Common.{◌∙◌, Option, Result, refl, subst, sym}
use Rattle.nvme_model.specs.declared.status.Status.{Status}
use Rattle.driver_calls.specs.declared.reply.Reply.{Reply}
use Rattle.driver_cas.specs.declared.call.Poll.{Poll}
use Rattle.driver_cas.specs.Drivers.{SaysOfPort, before, number_of}
use Rattle.driver_cas.proofs.Drivers.{asks_over, freed_some, later_ended, one_over, says_over, told_back}
use Rattle.driver_cas.proofs.driver.Driver.poll.Goals as goal

pub returns-in-Some-clause-one : goal.returns-in-Some-clause-one
returns-in-Some-clause-one g c =
    one_over g.P.Port c.args.self.now c.reap.new.self c.take.new.self c.reap.ensures.made c.take.ensures.same
    c.take.ensures.port

pub returns-in-Some-clause-back : goal.returns-in-Some-clause-back
returns-in-Some-clause-back g c = told_back c.args.call _ c.in-Some.answer c.ended.ensures

pub returns-in-Some-clause-freed : goal.returns-in-Some-clause-freed
returns-in-Some-clause-freed g c =
    freed_some c.args.self.now.cids c.reap.new.self.cids c.take.new.self.cids c.args.call _ c.in-Some.answer
    c.reap.ensures.in_use c.in-Some.ensures.some c.ended.ensures

pub returns-in-Some-clause-says : goal.returns-in-Some-clause-says
returns-in-Some-clause-says g c =
    let d = c.reap.new.self in
    let k = c.args.call in
    let of = c.reap.ensures.calls k c.requires in
    says_over g.P.Port d c.take.new.self k _
    (g.met.P.Port.tells (before d) k.start.value d.port k.queue (number_of d k) k.first k.second k.op of.later
    (d.own k.queue of.known) d.tidy refl of.published)
    c.take.ensures.same c.take.ensures.port (c.ended.ensures ∙ (sym c.in-Some.is ∙ c.take.ensures.answer))

pub returns-in-None-clause-others : goal.returns-in-None-clause-others
returns-in-None-clause-others g c = λ other of apart. c.take.ensures.others other (c.reap.ensures.calls other of) apart

pub returns-in-None-clause-says : goal.returns-in-None-clause-says
returns-in-None-clause-says g c =
    let d = c.reap.new.self in
    let k = c.args.call in
    let of = c.reap.ensures.calls k c.requires in
    says_over g.P.Port d c.take.new.self k (Poll.Pending k)
    (g.met.P.Port.tells (before d) k.start.value d.port k.queue (number_of d k) k.first k.second k.op of.later
    (d.own k.queue of.known) d.tidy refl of.published)
    c.take.ensures.same c.take.ensures.port (sym c.in-None.is ∙ c.take.ensures.answer)

pub returns-in-Some-clause-others : goal.returns-in-Some-clause-others
returns-in-Some-clause-others g c = λ other of apart. c.take.ensures.others other (c.reap.ensures.calls other of) apart

pub returns-in-Err-clause-answer : goal.returns-in-Err-clause-answer
returns-in-Err-clause-answer g c = sym c.in-Err.ensures.waits

pub returns-in-Err-clause-says : goal.returns-in-Err-clause-says
returns-in-Err-clause-says g c =
    let d = c.reap.new.self in
    let k = c.args.call in
    let of = c.reap.ensures.calls k c.requires in
    subst (λ (r : Option (Result Reply Status)). SaysOfPort d k r) c.in-Err.ensures.waits
    (g.met.P.Port.tells (before d) k.start.value d.port k.queue (number_of d k) k.first k.second k.op of.later
    (d.own k.queue of.known) d.tidy refl of.published)

pub returns-in-Some-clause-asks : goal.returns-in-Some-clause-asks
returns-in-Some-clause-asks g c =
    asks_over g.P.Port c.args.self.now c.reap.new.self c.take.new.self c.args.call _ _ c.in_default.ensures.asks
    c.take.ensures.port (later_ended _ _ c.ended.ensures)

pub returns-in-None-clause-asks : goal.returns-in-None-clause-asks
returns-in-None-clause-asks g c =
    asks_over g.P.Port c.args.self.now c.reap.new.self c.take.new.self c.args.call _ _ c.in_default.ensures.asks
    c.take.ensures.port refl
