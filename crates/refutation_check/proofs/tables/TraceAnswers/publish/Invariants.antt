use Rattle.std.proofs.Common.{◌≡◌}
use Rattle.refutation_check.specs.Answers.{answers_in}
use Rattle.refutation_check.proofs.Steps.{Partway}
use Rattle.refutation_check.proofs.tables.TraceAnswers.publish.Given as goal

abbrev pub invariant-loop-place : goal.invariant-loop-place
invariant-loop-place l =
    Partway (answers_in l.initial.self) (answers_in l.self) l.number l.line.queue l.line.batch l.place
    × (l.batch ≡ l.line.batch)
