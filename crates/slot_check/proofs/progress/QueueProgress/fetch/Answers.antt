use Rattle.std.proofs.Common.{Some, ap, cond, eqb, refl, ℕ, ◌+◌, ◌∙◌, ◌≡◌}
use Rattle.nvme_model.specs.Verdict.{taken_entries}
use Rattle.slot_check.specs.Progress.{progress_in}
use Rattle.slot_check.proofs.Moving.{fetched}
use Rattle.slot_check.proofs.progress.QueueProgress.fetch.Goals as goal

pub returns-clause-ok : goal.returns-clause-ok
returns-clause-ok c = λ d past h legal.
    let n : c.from-taken.result ≡ taken_entries c.args.line.now.verdict = c.from-taken.ensures ∙ c.taken.ensures in
    fetched d past c.args.line.now (progress_in c.args.self.now) (progress_in (record {
      published = c.args.self.now.published;
      fetched = c.add_count.new.counts;
      posted = c.args.self.now.posted;
      reaped = c.args.self.now.reaped;
      flying = c.insert-put.new.self;
      waiting = c.args.self.now.waiting;
    })) h legal (λ q. refl)
    (λ q. c.in_ok-add_count.ensures.ok q
    ∙ ap (λ (x : ℕ). (progress_in c.args.self.now).fetched q + cond (eqb c.args.line.now.queue q) x 0) n)
    (λ q. refl) (λ q. refl)
    (λ t. (rw c.unwrap.ensures at c.insert-put.ensures.updates).0 t
    ∙ (λ i. cond (eqb c.args.line.now.ticket t)
    (Some (record { queue = c.args.line.now.queue; next = c.count_of-next.ensures.value i; left = n i }))
    (c.reserve.ensures.entries.2 t i))) (λ q i. refl)
