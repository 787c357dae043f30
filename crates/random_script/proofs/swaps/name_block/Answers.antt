use Rattle.std.proofs.Common.{◌∙◌}
use Rattle.std.proofs.lemmas.Result.{IfOk-weaker}
use Rattle.nvme_model.specs.Slots.{Name}
use Rattle.random_script.specs.Kinds.{IsHeldBlock}
use Rattle.random_script.proofs.swaps.name_block.Goals as goal

pub returns : goal.returns
returns c = record {
  held =
      let name : Name = record { host = c.args.host; serial = c.drawn_serial.result } in
      IfOk-weaker c.copy_of.result _ IsHeldBlock
      (λ p same. (name, c.requires.some, c.drawn_serial.ensures.some, same ∙ c.block_of.ensures.value))
      c.copy_of.ensures.same;
}
