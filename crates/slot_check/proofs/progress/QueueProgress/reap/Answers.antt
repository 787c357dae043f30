use Rattle.std.proofs.Common.{None, cond, eqb, refl, ◌&&◌, ◌∙◌}
use Rattle.slot_check.specs.Progress.{progress_in}
use Rattle.slot_check.proofs.Moving.{reaped}
use Rattle.slot_check.proofs.progress.QueueProgress.reap.Goals as goal

pub returns-clause-ok : goal.returns-clause-ok
returns-clause-ok c = λ d past h.
    reaped d past c.args.line.now (progress_in c.args.self.now) (progress_in (record {
      published = c.args.self.now.published;
      fetched = c.args.self.now.fetched;
      posted = c.args.self.now.posted;
      reaped = c.add_count.new.counts;
      flying = c.args.self.now.flying;
      waiting = c.remove.new.self;
    })) h (λ q. refl) (λ q. refl) (λ q. refl) (λ q. c.in_ok-add_count.ensures.ok q) (λ t. refl)
    (λ q i. c.remove.ensures.updates.0 (record { queue = q; index = i })
    ∙ (λ t. cond (eqb c.args.line.now.queue q && eqb (c.count_of-index.ensures.value t) i) None
    ((progress_in c.args.self.now).waiting q i)))
