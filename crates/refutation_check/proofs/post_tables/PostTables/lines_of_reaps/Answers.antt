use Rattle.std.proofs.Common.{None, Some, ap, length, reverse, sym, ℕ, ◌-◌, ◌∙◌}
use Rattle.refutation.specs.EffectOrders.{through_reaps}
use Rattle.refutation_check.proofs.PostPlaces.{no_reap, through_reap}
use Rattle.refutation_check.proofs.post_tables.PostTables.lines_of_reaps.Goals as goal

pub returns-then-count-eq0 : goal.returns-then-count-eq0
returns-then-count-eq0 c =
    let trace = reverse c.args.trace.now in
    record {
      value = λ x k. sym (ap (λ (n : ℕ). length (through_reaps trace c.args.queue n)) c.if-count-eq0.true
          ∙ no_reap trace c.args.queue);
    }

pub returns-in-Some : goal.returns-in-Some
returns-in-Some c = record {
  value = λ x k. sym (through_reap c.args.trace.now c.args.queue c.args.count (Some c.in-Some.lines)
      c.if-count-eq0.false
      (sym c.in-Some.is ∙ (c.reap_end.ensures.value ∙ k.reaps c.args.queue (c.args.count - 1))));
}

pub returns-in-None : goal.returns-in-None
returns-in-None c = record {
  value = λ x k. sym (through_reap c.args.trace.now c.args.queue c.args.count None c.if-count-eq0.false
      (sym c.in-None.is ∙ (c.reap_end.ensures.value ∙ k.reaps c.args.queue (c.args.count - 1))));
}
