use Rattle.std.proofs.Common.{ℕ, ◌+◌, ◌-◌, arith, vec_len}
use Rattle.shrink.proofs.Asking.{stopped_more, wider}
use Rattle.shrink.proofs.single.scan.Goals as goal

pub returns-in-Err-clause-scans : goal.returns-in-Err-clause-scans
returns-in-Err-clause-scans g c first whole n h =
    let count : ℕ = n + (c.lines.k + (vec_len c.args.lines.now - vec_len c.lines.lines)) in
    stopped_more g.Q.Question.asks g.Q.Question.stops first _ whole _ (count + 1) _ _
    (omega (arith, c.lines.invariant.fewer, c.lines-test.true, c.len.ensures))
    (c.in-Err.ensures.leaves first whole count c.lines.from c.lines.invariant.in_order
    (c.lines.invariant.needed first whole n h))

pub lines-preserved-then-out : goal.lines-preserved-then-out
lines-preserved-then-out g c =
    let one = c.in-Ok.ensures.gone c.if-out.true in
    record {
      in_order = omega arith;
      within = omega (arith, one, c.lines-test.true, c.len.ensures);
      fewer = omega (arith, one, c.lines.invariant.fewer);
      gone = λ some. omega (arith, one, c.lines.invariant.fewer);
      needed = λ first whole n h.
          let count : ℕ = n + (c.lines.k + (vec_len c.args.lines.now - vec_len c.lines.lines)) in
          let left = rw c.if-out.true at (c.in-Ok.ensures.leaves first whole count c.lines.from
          c.lines.invariant.in_order (c.lines.invariant.needed first whole n h)) in
          wider g.Q.Question.asks first _ whole _ (count + 1) _ c.lines.k c.lines.k c.lines.k c.lines.k
          (omega (arith, one, c.lines.invariant.fewer)) (omega arith) (omega arith) left.1;
    }

pub lines-preserved : goal.lines-preserved
lines-preserved g c =
    let one = c.in-Ok.ensures.stays c.if-out.false in
    record {
      in_order = omega (arith, c.lines.invariant.in_order);
      within = omega (arith, one, c.lines-test.true, c.len.ensures);
      fewer = omega (arith, one, c.lines.invariant.fewer);
      gone = λ some. omega (arith, one, c.lines.invariant.gone some);
      needed = λ first whole n h.
          let count : ℕ = n + (c.lines.k + (vec_len c.args.lines.now - vec_len c.lines.lines)) in
          let left = rw c.if-out.false at (c.in-Ok.ensures.leaves first whole count c.lines.from
          c.lines.invariant.in_order (c.lines.invariant.needed first whole n h)) in
          wider g.Q.Question.asks first _ whole _ (count + 1) _ c.lines.from c.lines.from (c.lines.k + 1)
          (c.lines.k + 1)
          (omega (arith, one, c.lines.invariant.fewer)) (omega arith) (omega arith) left.1;
    }

pub returns-clause-scans : goal.returns-clause-scans
returns-clause-scans g c first whole n h =
    wider g.Q.Question.asks first _ whole _ (n + (c.lines.k + (vec_len c.args.lines.now - vec_len c.lines.lines))) _
    c.lines.from c.lines.from c.lines.k _
    (omega (arith, c.lines.invariant.within, c.lines.invariant.fewer)) (omega arith)
    (omega (arith, c.lines-test.false, c.len.ensures, c.lines.lines.ok.0))
    (c.lines.invariant.needed first whole n h)
