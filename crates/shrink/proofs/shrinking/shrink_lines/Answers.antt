use Rattle.std.proofs.Common.{inr}
use Rattle.std.proofs.lemmas.Result.{err_from_is_err_and}
use Rattle.shrink.proofs.Asking.{begins}
use Rattle.shrink.proofs.shrinking.shrink_lines.Goals as goal

pub returns-in_err-shrink_failing : goal.returns-in_err-shrink_failing
returns-in_err-shrink_failing g c =
    let p = err_from_is_err_and c.from_residual-in_err-shrink_failing.result
    c.from_residual-in_err-shrink_failing.ensures.1 in
    let now = rw (c.as_slice.ensures.value, c.if-fails.true) at c.in_ok-fails.ensures.answered in
    record {
      shrinks = rw (p.1, p.2) (inr (c.in_err-shrink_failing.ensures.ends c.args.question.now c.args.lines.now.items 1
          (begins g.Q.Question.asks c.args.question.now c.still_fails.new.self c.args.lines.now.items now)));
    }

pub returns-then-fails : goal.returns-then-fails
returns-then-fails g c =
    let now = rw (c.as_slice.ensures.value, c.if-fails.true) at c.in_ok-fails.ensures.answered in
    record {
      shrinks = c.in_ok-shrink_failing.ensures.ends c.args.question.now c.args.lines.now.items 1
          (begins g.Q.Question.asks c.args.question.now c.still_fails.new.self c.args.lines.now.items now);
    }
