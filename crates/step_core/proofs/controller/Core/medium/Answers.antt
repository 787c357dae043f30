use Rattle.std.proofs.Common.{◌≡◌, ap, arith, false, subst}
use Rattle.nvme_model.specs.Laws.{is_held}
use Rattle.nvme_model.specs.Value.{value}
use Rattle.nvme_model.specs.declared.config.ConfigNumbers.{ConfigNumbers}
use Rattle.controller_interface.specs.State.{ControllerState}
use Rattle.step_core.proofs.Beginning.{block_is_value}
use Rattle.step_core.proofs.controller.Core.medium.Goals as goal

pub returns-clause-contents : goal.returns-clause-contents
returns-clause-contents c =
    subst (λ (x : ControllerState). is_held x.past c.args.lba ≡ false → c.block.result.now ≡ value x.past c.args.lba)
    c.self.view_is
    (block_is_value _ _ _ c.self.invariant.0 c.args.lba c.block.result.now
    (omega (arith, c.if-lba-from.false, c.from.ensures, ap (λ (n : ConfigNumbers). n.blocks) c.numbers.ensures.value))
    c.block.ensures.block)
