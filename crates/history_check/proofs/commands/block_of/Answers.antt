use Rattle.std.proofs.Common.{◌∙◌, arith}
use Rattle.history_check.proofs.Fronts.{rest_is}
use Rattle.history_check.proofs.commands.block_of.Goals as goal

pub returns-then-rest-le512 : goal.returns-then-rest-le512
returns-then-rest-le512 c =
    record {
      value = rest_is c.args.bytes.now c.from-skipped.result c.args.lba c.args.slba
          (c.from-skipped.ensures ∙ c.saturating_sub.ensures) (omega (arith, c.if-rest-le512.true));
    }
