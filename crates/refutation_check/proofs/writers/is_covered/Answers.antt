use Rattle.std.proofs.Common.{reverse, sym, ◌∙◌}
use Rattle.refutation.specs.EffectOrders.{comes_before}
use Rattle.refutation_check.specs.Commands.{name_of}
use Rattle.refutation_check.proofs.Leavers.{last_fails, last_passes}
use Rattle.refutation_check.proofs.writers.is_covered.Goals as goal

pub returns-then-branch : goal.returns-then-branch
returns-then-branch c = record {
  value = λ k.
      let known = c.args.known.now in
      last_passes (comes_before known.options.now known.config.now (reverse known.trace.now)
      (name_of c.args.effect.now))
      name_of c.loop-last.rest.now c.in-Some.earlier.now c.in-Some.last.now c.in-Some.ensures.cases.0
      (sym c.if-branch.true ∙ c.in_ok-comes_before.ensures.value k)
      ∙ c.loop-last.invariant k;
}

pub loop-last-preserved : goal.loop-last-preserved
loop-last-preserved c =
    λ k.
    let known = c.args.known.now in
    last_fails (comes_before known.options.now known.config.now (reverse known.trace.now) (name_of c.args.effect.now))
    name_of c.loop-last.rest.now c.in-Some.earlier.now c.in-Some.last.now c.in-Some.ensures.cases.0
    (sym c.if-branch.false ∙ c.in_ok-comes_before.ensures.value k)
    ∙ c.loop-last.invariant k
