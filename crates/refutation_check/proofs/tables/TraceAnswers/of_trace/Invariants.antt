use Rattle.std.proofs.Common.{take}
use Rattle.std.specs.Prelude.{reverse}
use Rattle.refutation_check.specs.Answers.{KnowsAnswers, answers_in}
use Rattle.refutation_check.proofs.tables.TraceAnswers.of_trace.Given as goal

abbrev pub invariant-loop-place : goal.invariant-loop-place
invariant-loop-place l = KnowsAnswers (reverse (take l.place l.trace)) (answers_in l.tables)
