use Rattle.std.proofs.Common.{take, ◌≡◌}
use Rattle.std.specs.Prelude.{reverse}
use Rattle.refutation.specs.LineRules.{least_fetched}
use Rattle.refutation_check.specs.Answers.{KnowsAnswers, answers_in}
use Rattle.refutation_check.proofs.heads.least_fetched.Given as goal

abbrev pub invariant-loop-place : goal.invariant-loop-place
invariant-loop-place l =
    KnowsAnswers (reverse (take l.place l.trace)) (answers_in l.tables)
    × (l.least ≡ least_fetched l.config (reverse (take l.place l.trace)) l.queue)
