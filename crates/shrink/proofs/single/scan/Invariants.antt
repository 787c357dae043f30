-- One question for each line that was looked at; the lines from `from` to before `k` are needed.
use Rattle.std.proofs.Common.{ℕ, List, ◌+◌, ◌-◌, ◌<◌, ◌≤◌, vec_len}
use Rattle.shrink.specs.Shrinking.{AreNeeded, StillFails}
use Rattle.shrink.proofs.single.scan.Given as goal

abbrev pub invariant-lines : goal.invariant-lines
invariant-lines g l =
    record {
      in_order : l.from ≤ l.k;
      within : l.k ≤ vec_len l.lines;
      fewer : vec_len l.lines ≤ vec_len l.fn.lines;
      gone : 0 < l.from → vec_len l.lines < vec_len l.fn.lines;
      needed : (first : _) (whole : List (List ℕ)) (n : ℕ)
          → StillFails g.Q.Question.asks first l.fn.question whole l.fn.lines.items n
          → AreNeeded g.Q.Question.asks first l.question whole l.lines.items
          (n + (l.k + (vec_len l.fn.lines - vec_len l.lines))) l.from l.k;
    }

abbrev pub decreases-lines : goal.decreases-lines
decreases-lines g l = vec_len l.lines - l.k
