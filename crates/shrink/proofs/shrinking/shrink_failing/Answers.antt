use Rattle.std.proofs.Common.{◌+◌, ◌≤◌, arith, length, vec_len}
use Rattle.std.proofs.lemmas.Result.{err_from_is_err_and}
use Rattle.shrink.proofs.Asking.{ends_more, stopped_more}
use Rattle.shrink.proofs.Counting.{fewer_rounds}
use Rattle.shrink.proofs.Parts.{part_length}
use Rattle.shrink.proofs.shrinking.shrink_failing.Goals as goal

pub returns-in_err-run_plan : goal.returns-in_err-run_plan
returns-in_err-run_plan g c =
    let p = err_from_is_err_and c.from_residual.result c.from_residual.ensures.1 in
    record {
      ends = λ first whole n h. rw (p.1, p.2) (stopped_more g.Q.Question.asks g.Q.Question.stops first _ whole _
          (n + c.args.tries) _ _ (omega arith) (c.in_err-run_plan.ensures.goes first whole n h));
    }

pub returns : goal.returns
returns g c =
    record {
      ends = λ first whole n h.
          let s = c.in_ok-run_plan.ensures.goes first whole n h in
          let le : vec_len c.run_plan.new.lines ≤ length whole =
          omega (arith, part_length whole c.run_plan.new.lines.items s.part, c.run_plan.new.lines.ok.0) in
          ends_more g.Q.Question.asks g.Q.Question.stops first _ whole _ _ _ _
          (omega (arith, fewer_rounds (length whole) (vec_len c.run_plan.new.lines) le))
          (c.leave_out_lines.ensures.ends first whole (n + c.args.tries) s);
    }
