use Rattle.std.proofs.Common.{ap, inr, sym, ◌∙◌, ◌≡◌}
use Rattle.slab.specs.Slab.{with_value}
use Rattle.job_table.specs.Lends.{with_job}
use Rattle.job_table.specs.Slots.{jobs_in}
use Rattle.job_table.specs.declared.job.Job.{Job}
use Rattle.job_table.proofs.Slots.{has_found, has_key, job_found, length_lent, lent_in, lent_same, none_found, rises_in}
use Rattle.job_table.proofs.TicketLookups.{job_of_absent}
use Rattle.job_table.proofs.jobs.Jobs.get_mut.Goals as goal

pub index_mut-requires : goal.index_mut-requires
index_mut-requires c = has_key _ _ c.args.ticket _ c.self.invariant.each (sym c.in-Some.ensures.key)

pub invariant_of-self-lent : goal.invariant_of-self-lent
invariant_of-self-lent c w =
    let e = c.index_mut.result.now in
    let lent = lent_in _ _ c.args.ticket _ e w c.self.invariant.each c.self.invariant.rising (sym c.in-Some.ensures.key)
    c.index_mut.ensures.value in
    record {
      rising = c.self.invariant.rising;
      each = lent.1;
      count = length_lent c.self.inside.jobs c.in-Some.key e (record { ticket = e.ticket; job = w })
          c.index_mut.ensures.value ∙ c.self.invariant.count;
      within = c.self.invariant.within;
      limit_is = c.self.invariant.limit_is;
      room = c.self.invariant.room;
    }

pub returns-in-Some : goal.returns-in-Some
returns-in-Some c =
    let key = sym c.in-Some.ensures.key in
    let e = c.index_mut.result.now in
    let wrote : (w : Job) → record {
      limit = c.self.inside.limit;
      jobs = jobs_in (with_value c.self.inside.jobs c.in-Some.key (record { ticket = e.ticket; job = w }))
          c.self.inside.index.keyed;
    } ≡ with_job c.args.self.now c.args.ticket w =
    λ w. rw (← c.self.view_is)
    (ap (λ js. record { limit = c.self.inside.limit; jobs = js })
    (lent_in _ _ c.args.ticket _ e w c.self.invariant.each c.self.invariant.rising key
    c.index_mut.ensures.value).0) in (
      lent_same _ _ _ wrote,
      record {
        writes_back = tt;
        value = rw (← c.self.view_is)
            (sym (job_found _ _ c.args.ticket _ e c.self.invariant.each key c.index_mut.ensures.value).0);
        any = rw (← c.self.view_is) (sym (has_found _ _ c.args.ticket _ c.self.invariant.each key));
        law = rw (← c.self.view_is) (rises_in _ _ c.self.invariant.each c.self.invariant.rising);
      },
    )

pub returns-in-None : goal.returns-in-None
returns-in-None c =
    let none = none_found _ _ c.args.ticket c.self.invariant.each (sym c.in-None.ensures.key) in (
      ap inr c.self.view_is,
      record {
        writes_back = tt;
        value = rw (← c.self.view_is) (sym (job_of_absent _ c.args.ticket none));
        any = rw (← c.self.view_is) (sym none);
        law = rw (← c.self.view_is) (rises_in _ _ c.self.invariant.each c.self.invariant.rising);
      },
    )
