use Rattle.std.proofs.Common.{ap, arith, subst}
use Rattle.nvme_model.specs.declared.config.ConfigNumbers.{ConfigNumbers}
use Rattle.step_core.specs.Found.{IsCqRing}
use Rattle.controller_interface.specs.State.{ControllerState}
use Rattle.step_core.proofs.Lookups.{cq_read}
use Rattle.step_core.proofs.controller.Core.cq_ring.Goals as goal

pub returns : goal.returns
returns c = record {
  value = subst (λ (x : ControllerState). IsCqRing x.config x.past c.args.queue c.index.result.now) c.self.view_is
      (cq_read _ _ _ c.self.invariant.0 c.args.queue c.index.result.now c.if-queue-eq0.false
      (omega (arith, c.if-queue-numbers.false, ap (λ (n : ConfigNumbers). n.cqs) c.numbers.ensures.value))
      c.index.ensures);
}
