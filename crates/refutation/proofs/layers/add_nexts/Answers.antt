use Rattle.std.proofs.Common.{refl, ◌∙◌}
use Rattle.refutation.proofs.Loops.{nexts_step}
use Rattle.refutation.proofs.layers.add_nexts.Goals as goal

pub loop-number-preserved : goal.loop-number-preserved
loop-number-preserved c = (
  refl,
  nexts_step _ _ _ _ _ c.loop-number.number _ c.loop-number-test.true c.in_ok-add_next.ensures
      ∙ c.loop-number.invariant.1,
)
