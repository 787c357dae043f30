use Rattle.std.proofs.Common.{arith, rules, sym}
use Rattle.job_table.proofs.Rising.{has_ticket_at}
use Rattle.job_table.proofs.Search.{ended, first, lower, one_more, other_above, upper}
use Rattle.job_table.proofs.index.JobIndex.place.Goals as goal

pub loop-from-init : goal.loop-from-init
loop-from-init g c = rw (← c.self.view_is, c.len-to.ensures.value) (first _ c.args.t c.args.steps.now)

pub probe-ticket-requires : goal.probe-ticket-requires
probe-ticket-requires g c =
    let s = rw (← c.self.view_is) at c.loop-from.invariant in
    record { within = omega (arith, s.within, c.loop-from-test.true) }

pub returns-then-ticket-t-clause-any : goal.returns-then-ticket-t-clause-any
returns-then-ticket-t-clause-any g c =
    let there = rw (c.self.view_is, c.if-ticket-t.true) at c.probe-ticket.ensures.ticket in
    sym (has_ticket_at _ _ _ there)

pub returns-then-ticket-t-clause-counted : goal.returns-then-ticket-t-clause-counted
returns-then-ticket-t-clause-counted g c = omega (arith, c.loop-from.invariant.counted, c.probe-ticket.ensures.one)

pub returns-then-ticket-t-clause-cost : goal.returns-then-ticket-t-clause-cost
returns-then-ticket-t-clause-cost g c =
    rw c.probe-ticket.ensures.one (one_more _ _ _ _ _ _ c.loop-from.invariant c.loop-from-test.true)

pub loop-from-preserved-then-ticket-t-2 : goal.loop-from-preserved-then-ticket-t-2
loop-from-preserved-then-ticket-t-2 g c =
    let there = rw c.self.view_is at c.probe-ticket.ensures.ticket in
    rw c.probe-ticket.ensures.one
    (upper _ _ _ _ _ _ _ (rw c.self.view_is at c.self.invariant) c.loop-from.invariant c.loop-from-test.true there
    c.if-ticket-t-2.true)

pub loop-from-preserved : goal.loop-from-preserved
loop-from-preserved g c =
    let there = rw c.self.view_is at c.probe-ticket.ensures.ticket in
    let high = other_above _ _ c.if-ticket-t-2.false c.if-ticket-t.false in
    rw c.probe-ticket.ensures.one
    (lower _ _ _ _ _ _ _ (rw c.self.view_is at c.self.invariant) c.loop-from.invariant c.loop-from-test.true there
    high)

pub returns-clause-any : goal.returns-clause-any
returns-clause-any g c = rw (ended _ _ _ _ _ _ c.loop-from.invariant (search rules))

pub returns-clause-counted : goal.returns-clause-counted
returns-clause-counted g c = c.loop-from.invariant.counted

pub returns-clause-cost : goal.returns-clause-cost
returns-clause-cost g c = c.loop-from.invariant.cost
