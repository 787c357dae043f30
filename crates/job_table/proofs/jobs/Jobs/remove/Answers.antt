use Rattle.std.proofs.Common.{ap, arith, is_some, sym, ◌∙◌}
use Rattle.job_table.specs.Slots.{jobs_in}
use Rattle.job_table.proofs.TicketLookups as absent
use Rattle.job_table.proofs.Rising.{IsRising-beside, beside_absent, is_some-key_of}
use Rattle.job_table.proofs.Slots.{has_key, job_found, length_beside, none_found, only_key, removed_in}
use Rattle.job_table.proofs.TicketLookups.{job_of_absent}
use Rattle.job_table.proofs.jobs.Jobs.remove.Goals as goal

pub remove-job-requires : goal.remove-job-requires
remove-job-requires c = has_key _ _ c.args.ticket _ c.self.invariant.each (sym c.in-Some.ensures.key)

pub invariant_of-self : goal.invariant_of-self
invariant_of-self c =
    let key = sym c.in-Some.ensures.key in
    let taken = c.remove-job in
    let e = taken.result in
    let ks = c.self.inside.index.keyed in
    let removed = removed_in _ _ ks c.args.ticket c.in-Some.key e c.self.invariant.each
    (only_key ks _ _ c.self.invariant.rising key) taken.ensures.value
    (job_found _ ks c.args.ticket _ e c.self.invariant.each key taken.ensures.value).1 taken.ensures.updates in
    let fewer = length_beside ks c.args.ticket c.in-Some.key c.self.invariant.rising key in
    record {
      rising = rw c.in-Some.ensures.rest (IsRising-beside ks c.args.ticket c.self.invariant.rising);
      each = rw c.in-Some.ensures.rest removed.1;
      count = rw c.in-Some.ensures.rest (omega (arith, taken.ensures.len, c.self.invariant.count, fewer));
      within = rw c.in-Some.ensures.rest (omega (arith, c.self.invariant.within, fewer));
      limit_is = rw c.in-Some.ensures.rest c.self.invariant.limit_is;
      room = rw taken.ensures.capacity c.self.invariant.room;
    }

pub invariant_of-self-in-None : goal.invariant_of-self-in-None
invariant_of-self-in-None c =
    let ks = c.self.inside.index.keyed in
    let no = sym (is_some-key_of ks c.args.ticket) ∙ ap is_some (sym c.in-None.ensures.key) in
    rw (c.in-None.ensures.rest, beside_absent ks c.args.ticket no) c.self.invariant

pub returns-in-Some-clause-value : goal.returns-in-Some-clause-value
returns-in-Some-clause-value c =
    rw (← c.self.view_is) (sym
    (job_found _ _ c.args.ticket _ _ c.self.invariant.each (sym c.in-Some.ensures.key) c.remove-job.ensures.value).0)

pub returns-in-Some-clause-rest : goal.returns-in-Some-clause-rest
returns-in-Some-clause-rest c =
    let key = sym c.in-Some.ensures.key in
    let taken = c.remove-job in
    let e = taken.result in
    let ks = c.self.inside.index.keyed in
    let removed = removed_in _ _ ks c.args.ticket c.in-Some.key e c.self.invariant.each
    (only_key ks _ _ c.self.invariant.rising key) taken.ensures.value
    (job_found _ ks c.args.ticket _ e c.self.invariant.each key taken.ensures.value).1 taken.ensures.updates in
    rw (← c.self.view_is, c.in-Some.ensures.rest)
    (ap (λ js. record { limit = c.self.inside.limit; jobs = js }) removed.0)

pub returns-in-None-clause-value : goal.returns-in-None-clause-value
returns-in-None-clause-value c =
    rw (← c.self.view_is) (sym
    (job_of_absent _ c.args.ticket (none_found _ _ c.args.ticket c.self.invariant.each (sym c.in-None.ensures.key))))

pub returns-in-None-clause-rest : goal.returns-in-None-clause-rest
returns-in-None-clause-rest c =
    let ks = c.self.inside.index.keyed in
    let no = sym (is_some-key_of ks c.args.ticket) ∙ ap is_some (sym c.in-None.ensures.key) in
    let same = absent.beside_absent (jobs_in c.self.inside.jobs ks) c.args.ticket
    (none_found _ ks c.args.ticket c.self.invariant.each (sym c.in-None.ensures.key)) in
    rw (← c.self.view_is, c.in-None.ensures.rest, beside_absent ks c.args.ticket no)
    (ap (λ js. record { limit = c.self.inside.limit; jobs = js }) (sym same))
