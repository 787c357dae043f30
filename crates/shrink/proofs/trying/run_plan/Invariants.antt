-- One question at most for each turn.
use Rattle.std.proofs.Common.{ℕ, List, ◌+◌}
use Rattle.shrink.specs.Shrinking.{StillFails}
use Rattle.shrink.proofs.trying.run_plan.Given as goal

abbrev pub invariant-loop-turn : goal.invariant-loop-turn
invariant-loop-turn g l =
    (first : _) (whole : List (List ℕ)) (n : ℕ)
    → StillFails g.Q.Question.asks first l.fn.question whole l.fn.lines.items n
    → StillFails g.Q.Question.asks first l.question whole l.lines.items (n + l.turn)
