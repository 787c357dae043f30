use Rattle.std.proofs.Common.{arith, eqb, sym, ◌∙◌}
use Rattle.rings.proofs.Positions.{none_in_run}
use Rattle.rings.proofs.in_use.others_before.Goals as goal

pub loop-from-preserved : goal.loop-from-preserved
loop-from-preserved c = (
  omega (arith, c.loop-from.invariant, c.loop-from-test.true),
  none_in_run (λ one. eqb one c.args.cid) c.loop-from.from 16 c.args.cids.now c.loop-from.invariant.1
      (sym c.contains.ensures.value ∙ c.if-contains.false),
)
