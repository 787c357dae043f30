use Rattle.std.proofs.Common.{arith, refl}
use Rattle.shrink.proofs.Orders.{words_at, words_end}
use Rattle.shrink.proofs.smaller.are_at_most.Goals as goal

pub loop-k-preserved : goal.loop-k-preserved
loop-k-preserved c = λ h. c.loop-k.invariant
    (words_at (λ w. w.now) c.args.words.now c.args.others.now c.loop-k.k _ _ c.loop-k-test.true
    (omega (arith, c.if-words-others.false, c.loop-k-test.true)) (c.if-not-is_at_most.ensures.value refl) h)

pub returns : goal.returns
returns c =
    record {
      value = λ e. c.loop-k.invariant (words_end (λ w. w.now) c.args.words.now c.args.others.now c.loop-k.k
          c.loop-k-test.false (omega (arith, c.if-words-others.false, c.loop-k-test.false)));
    }
