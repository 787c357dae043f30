use Rattle.std.proofs.Common.{[], subst}
use Rattle.witness_check.specs.Lanes.{AreLanes}
use Rattle.witness_check.proofs.Reaching.{reach_none}
use Rattle.witness_check.proofs.delayed.DelayedComparison.new.Goals as goal

pub returns : goal.returns
returns c = record {
  begun = λ trace. record {
    came = [];
    compared = c.in_ok-new.ensures.begun [];
    apart = c.aside_pair.ensures.value;
    so_far = λ good. record {
      alike = c.in_ok-new.ensures.alike.0;
      next = c.in_ok-new.ensures.alike.1;
      each = tt;
      own = tt;
      places = subst (λ n. AreLanes n trace [] c.in_ok-new-2.field-0) c.lanes_of.ensures.value
          (c.in_ok-new-2.ensures.ok trace);
      reached = reach_none trace;
    };
  };
}
