use Rattle.std.proofs.Common.{arith, vec_len, ◌+◌, ◌<◌}
use Rattle.std.proofs.lemmas.Result.{err_from_is_err_and}
use Rattle.shrink.proofs.Asking.{scanned, stopped_more, wider}
use Rattle.shrink.proofs.Counting.{one_round, rounds}
use Rattle.shrink.proofs.single.leave_out_lines.Goals as goal

pub returns-in_err-from : goal.returns-in_err-from
returns-in_err-from g c =
    let p = err_from_is_err_and c.from_residual.result c.from_residual.ensures.1 in
    record {
      ends = λ first whole n h. rw (p.1, p.2) (stopped_more g.Q.Question.asks g.Q.Question.stops first _ whole _
          (n + vec_len c.args.lines.now) _ _ (omega (arith, one_round (vec_len c.args.lines.now)))
          (c.in_err-from.ensures.scans first whole n h));
    }

pub rounds-init : goal.rounds-init
rounds-init g c =
    let many = vec_len c.args.lines.now in
    let left = vec_len c.scan.new.lines in
    record {
      most = c.scan.ensures.most;
      fewer = c.in_ok-from.ensures.fewer;
      needed = λ first whole n h. (
        n + many,
        omega (arith, one_round many),
        λ some. omega (arith, rounds many left (c.in_ok-from.ensures.fewer some)),
        c.in_ok-from.ensures.scans first whole n h,
      );
    }

pub rounds-preserved : goal.rounds-preserved
rounds-preserved g c =
    let many = vec_len c.rounds.lines in
    let left = vec_len c.scan-in-rounds.new.lines in
    let some : 0 < c.rounds.from = omega (arith, c.rounds-test.true) in
    record {
      most = omega (arith, c.scan-in-rounds.ensures.most, c.rounds.invariant.most);
      fewer = λ more. omega (arith, c.in-Ok.ensures.fewer more, c.rounds.invariant.most);
      needed = λ first whole n h.
          let k = c.rounds.invariant.needed first whole n h in
          let room = k.2 some in (
            k.0 + many,
            omega (arith, room, one_round many),
            λ more. omega (arith, room, rounds many left (c.in-Ok.ensures.fewer more)),
            c.in-Ok.ensures.scans first whole k.0
                (scanned g.Q.Question.asks first _ whole _ k.0 c.rounds.from _ k.3),
          );
    }

pub returns-in-Err : goal.returns-in-Err
returns-in-Err g c =
    let many = vec_len c.rounds.lines in
    let some : 0 < c.rounds.from = omega (arith, c.rounds-test.true) in
    record {
      ends = λ first whole n h.
          let k = c.rounds.invariant.needed first whole n h in
          let room = k.2 some in
          stopped_more g.Q.Question.asks g.Q.Question.stops first _ whole _ (k.0 + many) _ _
          (omega (arith, room, one_round many)) (c.in-Err.ensures.scans first whole k.0
          (scanned g.Q.Question.asks first _ whole _ k.0 c.rounds.from _ k.3));
    }

pub returns : goal.returns
returns g c =
    record {
      ends = λ first whole n h.
          let k = c.rounds.invariant.needed first whole n h in
          wider g.Q.Question.asks first _ whole _ k.0 _ c.rounds.from 0 _ _ k.1 (omega (arith, c.rounds-test.false))
          (omega arith) k.3;
    }
