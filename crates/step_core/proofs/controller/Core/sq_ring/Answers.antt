use Rattle.std.proofs.Common.{ap, arith, subst}
use Rattle.nvme_model.specs.declared.config.ConfigNumbers.{ConfigNumbers}
use Rattle.step_core.specs.Found.{IsSqRing}
use Rattle.controller_interface.specs.State.{ControllerState}
use Rattle.step_core.proofs.Lookups.{sq_read}
use Rattle.step_core.proofs.controller.Core.sq_ring.Goals as goal

pub returns : goal.returns
returns c = record {
  value = subst (λ (x : ControllerState). IsSqRing x.config x.past c.args.queue c.index.result.now) c.self.view_is
      (sq_read _ _ _ c.self.invariant.0 c.args.queue c.index.result.now c.if-queue-eq0.false
      (omega (arith, c.if-queue-numbers.false, ap (λ (n : ConfigNumbers). n.pairs) c.numbers.ensures.value))
      c.index.ensures);
}
