use Rattle.std.proofs.Common.{ap, arith, length, subst, ◌∙◌}
use Rattle.witness_check.specs.Lanes.{LanesRun, earlier_of}
use Rattle.witness_check.proofs.Placing.{IsLeast, first_found, least_next}
use Rattle.witness_check.proofs.lanes.Lanes.first_left.Goals as goal

pub loop-at-preserved : goal.loop-at-preserved
loop-at-preserved c =
    least_next c.args.trace.now c.args.self.now c.loop-at.at c.loop-at.first c.earlier-first.result c.loop-at.invariant
    (c.earlier-first.ensures.value ∙ ap (earlier_of c.loop-at.first) c.first_at.ensures.value)

pub returns : goal.returns
returns c = record {
  value = λ size came some h. first_found size c.args.trace.now came c.args.self.now some h c.loop-at.first
      (subst (λ n. IsLeast c.args.trace.now c.args.self.now n c.loop-at.first)
      (omega (
        arith,
        h.waits.size,
        c.loop-at-test.false,
        c.loop-at.auto.at-end,
        c.len-at-end.ensures,
        ap
            (λ (x : LanesRun). length x.waiting) c.self.view_is,
      )) c.loop-at.invariant);
}
