use Rattle.std.proofs.lemmas.Result.{err_from_is_err_and}
use Rattle.shrink.proofs.Asking.{failed, passed, unanswered}
use Rattle.shrink.proofs.trying.keep_failing.Goals as goal

pub returns-then-fails : goal.returns-then-fails
returns-then-fails g c =
    let now = rw (c.as_slice.ensures.value, c.if-fails.true) at c.in_ok-fails.ensures.answered in
    record {
      goes = λ first whole n h. failed g.Q.Question.asks first c.args.question.now c.still_fails.new.self whole
          c.args.lines.now.items c.args.candidate.items n h now c.requires.part;
    }

pub returns-else-fails : goal.returns-else-fails
returns-else-fails g c =
    let now = rw (c.as_slice.ensures.value, c.if-fails.false) at c.in_ok-fails.ensures.answered in
    record {
      goes = λ first whole n h. passed g.Q.Question.asks first c.args.question.now c.still_fails.new.self whole
          c.args.lines.now.items c.args.candidate.items n h now c.requires.part;
    }

pub returns-in_err-fails : goal.returns-in_err-fails
returns-in_err-fails g c =
    let p = err_from_is_err_and c.from_residual.result c.from_residual.ensures.1 in
    let now = rw c.as_slice.ensures.value at c.in_err-fails.ensures.stopped in
    record {
      goes = λ first whole n h. rw (p.1, p.2) (unanswered g.Q.Question.asks g.Q.Question.stops first
          c.args.question.now c.still_fails.new.self whole c.args.lines.now.items c.args.candidate.items n _ h
          c.requires.part now);
    }
