-- Each round that isn't the last has fewer lines, and leaves as many questions as those may need.
use Rattle.std.proofs.Common.{List, length, min, vec_len, ℕ, ◌*◌, ◌+◌, ◌<◌, ◌≤◌}
use Rattle.shrink.specs.Shrinking.{AreNeeded, StillFails}
use Rattle.shrink.proofs.single.leave_out_lines.Given as goal

abbrev pub invariant-rounds : goal.invariant-rounds
invariant-rounds g l =
    record {
      most : vec_len l.lines ≤ vec_len l.fn.lines;
      fewer : 0 < l.from → vec_len l.lines < vec_len l.fn.lines;
      needed : (first : _) (whole : List (List ℕ)) (n : ℕ)
          → StillFails g.Q.Question.asks first l.fn.question whole l.fn.lines.items n
          → (count : ℕ) × (count ≤ n + vec_len l.fn.lines * (vec_len l.fn.lines + 1))
          × (0 < l.from → count + vec_len l.lines * (vec_len l.lines + 1)
          ≤ n + vec_len l.fn.lines * (vec_len l.fn.lines + 1))
          × AreNeeded g.Q.Question.asks first l.question whole l.lines.items count l.from (length l.lines.items);
    }

abbrev pub decreases-rounds : goal.decreases-rounds
decreases-rounds g l = 2 * vec_len l.lines + min l.from 1
