use Rattle.std.proofs.Common.{◌∙◌, arith}
use Rattle.refutation_check.proofs.EntryData.{rest_is}
use Rattle.refutation_check.proofs.block_data.block_of.Goals as goal

pub returns-then-rest-le512 : goal.returns-then-rest-le512
returns-then-rest-le512 c =
    record {
      value = rest_is c.args.bytes.now c.from-skipped.result c.args.block c.args.slba
          (c.from-skipped.ensures ∙ c.saturating_sub.ensures) (omega (arith, c.if-rest-le512.true));
    }
