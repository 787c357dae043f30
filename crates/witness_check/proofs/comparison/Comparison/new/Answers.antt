use Rattle.std.proofs.Common.{refl}
use Rattle.witness_check.proofs.Comparing.{compared_none}
use Rattle.witness_check.proofs.comparison.Comparison.new.Goals as goal

pub returns : goal.returns
returns c = record {
  begun = λ trace. compared_none c.args.options.now c.args.config.now c.aside_pair.result trace c.in_ok-new.field-0
      c.aside_pair.ensures.value c.in_ok-new.ensures.ok;
  alike = (refl, refl);
}
