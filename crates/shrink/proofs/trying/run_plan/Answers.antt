use Rattle.std.proofs.Common.{◌+◌, arith}
use Rattle.std.proofs.lemmas.Result.{err_from_is_err_and}
use Rattle.shrink.proofs.Asking.{stopped_more, unasked}
use Rattle.shrink.proofs.trying.run_plan.Goals as goal

pub returns-in_err-edit : goal.returns-in_err-edit
returns-in_err-edit g c =
    let p = err_from_is_err_and c.from_residual.result c.from_residual.ensures.1 in
    record {
      goes = λ first whole n h. rw p.1 (unasked g.Q.Question.asks g.Q.Question.stops first _ whole _
          (n + c.loop-turn.turn) _ p.0 p.2 (omega (arith, c.loop-turn-test.true))
          (c.loop-turn.invariant first whole n h));
    }

pub returns-in_err-worked : goal.returns-in_err-worked
returns-in_err-worked g c =
    let p = err_from_is_err_and c.from_residual-in_err-worked.result c.from_residual-in_err-worked.ensures.1 in
    record {
      goes = λ first whole n h. rw (p.1, p.2) (stopped_more g.Q.Question.asks g.Q.Question.stops first _ whole _
          (n + c.loop-turn.turn + 1) _ _ (omega (arith, c.loop-turn-test.true))
          (c.in_err-worked.ensures.goes first whole (n + c.loop-turn.turn) (c.loop-turn.invariant first whole n h)));
    }
