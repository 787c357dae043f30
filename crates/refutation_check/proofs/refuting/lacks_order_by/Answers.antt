use Rattle.std.proofs.Common.{◌∙◌}
use Rattle.refutation_check.proofs.refuting.lacks_order_by.Goals as goal

pub returns : goal.returns
returns c =
    record {
      value = λ knows. c.slice_lacks_order.ensures.value (record {
        answers = knows;
        heads = λ kept. c.as_slice.ensures.value ∙ c.in_ok-heads.ensures.value kept;
      });
    }
