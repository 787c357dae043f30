use Rattle.std.proofs.Common.{None, Some, ap, arith, length, reverse, suc, sym, ℕ, ◌+◌, ◌-◌, ◌∙◌, ◌≡◌}
use Rattle.std.proofs.lemmas.List.{length-reverse}
use Rattle.refutation.specs.EffectOrders.{through_entries}
use Rattle.refutation_check.proofs.Places.{within}
use Rattle.refutation_check.proofs.PostPlaces.{no_entry, through_entry}
use Rattle.refutation_check.proofs.post_tables.lines_of_entries.Goals as goal

pub returns-then-count-eq0 : goal.returns-then-count-eq0
returns-then-count-eq0 c =
    let trace = reverse c.args.trace.now in
    record {
      value = λ k. sym (ap (λ (n : ℕ). length (through_entries trace c.args.queue n)) c.if-count-eq0.true
          ∙ no_entry trace c.args.queue);
    }

pub returns-in-None : goal.returns-in-None
returns-in-None c = record {
  value = λ k. sym (through_entry c.args.trace.now c.args.queue c.args.count None c.if-count-eq0.false
      (sym c.in-None.is ∙ (c.place.ensures.value ∙ k.entries c.args.queue (c.args.count - 1))));
}

pub returns-in-Some : goal.returns-in-Some
returns-in-Some c =
    let next : c.in-Some.at.line + 1 ≡ suc c.in-Some.at.line = omega arith in
    record {
      value = λ k. next ∙ sym (through_entry c.args.trace.now c.args.queue c.args.count (Some c.in-Some.at)
          c.if-count-eq0.false
          (sym c.in-Some.is ∙ (c.place.ensures.value ∙ k.entries c.args.queue (c.args.count - 1))));
    }

pub returns-in-Some-2 : goal.returns-in-Some-2
returns-in-Some-2 c =
    let lines = c.args.trace.now in
    record {
      value = λ k.
          let low = within (reverse lines) c.args.queue (c.args.count - 1) c.in-Some.at
          (sym (k.entries c.args.queue (c.args.count - 1)) ∙ (sym c.place.ensures.value ∙ c.in-Some.is)) in
          absurd (omega (arith, low, length-reverse lines, c.if-at-all.false));
    }
