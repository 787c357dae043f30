use Rattle.std.proofs.Common.{◌∙◌, sym, arith}
use Rattle.shrink.proofs.Orders.{order_end, order_other, order_same}
use Rattle.shrink.proofs.smaller.is_in_order.Goals as goal

pub returns-then-b-c : goal.returns-then-b-c
returns-then-b-c c =
    record {
      value = sym (c.loop-k.invariant ∙ order_other c.args.word.now c.args.other.now c.loop-k.k (omega arith)
          (omega (arith, c.requires)) c.if-b-c.true);
    }

pub loop-k-preserved : goal.loop-k-preserved
loop-k-preserved c =
    c.loop-k.invariant ∙ order_same c.args.word.now c.args.other.now c.loop-k.k (omega arith)
    (omega (arith, c.requires)) c.if-b-c.false

pub returns : goal.returns
returns c =
    record { value = sym (c.loop-k.invariant ∙ order_end c.args.word.now c.args.other.now c.loop-k.k (omega arith)) }
