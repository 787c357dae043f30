use Rattle.std.proofs.Common.{sym}
use Rattle.job_table.proofs.Slots.{has_found, has_key, job_found, none_found, rises_in}
use Rattle.job_table.proofs.TicketLookups.{job_of_absent}
use Rattle.job_table.proofs.jobs.Jobs.get.Goals as goal

pub one-requires : goal.one-requires
one-requires c = record { there = has_key _ _ c.args.ticket _ c.self.invariant.each (sym c.in-Some.ensures.key) }

pub returns-in-Some-clause-value : goal.returns-in-Some-clause-value
returns-in-Some-clause-value c =
    rw (← c.self.view_is) (sym
    (job_found _ _ c.args.ticket _ _ c.self.invariant.each (sym c.in-Some.ensures.key) c.one.ensures.value).0)

pub returns-in-Some-clause-any : goal.returns-in-Some-clause-any
returns-in-Some-clause-any c =
    rw (← c.self.view_is) (sym (has_found _ _ c.args.ticket _ c.self.invariant.each (sym c.in-Some.ensures.key)))

pub returns-in-Some-clause-law : goal.returns-in-Some-clause-law
returns-in-Some-clause-law c = rw (← c.self.view_is) (rises_in _ _ c.self.invariant.each c.self.invariant.rising)

pub returns-in-None-clause-value : goal.returns-in-None-clause-value
returns-in-None-clause-value c =
    rw (← c.self.view_is) (sym
    (job_of_absent _ c.args.ticket (none_found _ _ c.args.ticket c.self.invariant.each (sym c.in-None.ensures.key))))

pub returns-in-None-clause-any : goal.returns-in-None-clause-any
returns-in-None-clause-any c =
    rw (← c.self.view_is) (sym (none_found _ _ c.args.ticket c.self.invariant.each (sym c.in-None.ensures.key)))

pub returns-in-None-clause-law : goal.returns-in-None-clause-law
returns-in-None-clause-law c = rw (← c.self.view_is) (rises_in _ _ c.self.invariant.each c.self.invariant.rising)
