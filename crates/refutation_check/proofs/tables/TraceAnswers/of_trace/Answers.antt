use Rattle.std.proofs.Common.{ap, arith, length, length-take, subst, take, ◌∙◌}
use Rattle.std.proofs.Common.{◌∷◌, ◌≡◌}
use Rattle.std.specs.Prelude.{reverse}
use Rattle.std.proofs.lemmas.List.{length-reverse}
use Rattle.refutation_check.specs.Answers.{KnowsAnswers, answers_in}
use Rattle.refutation_check.proofs.Steps.{one_line}
use Rattle.refutation_check.proofs.tables.TraceAnswers.of_trace.Goals as goal

pub loop-place-preserved : goal.loop-place-preserved
loop-place-preserved c =
    let xs = c.args.trace.now in
    let i = c.loop-place.place in
    let d = c.index-trace-place.result in
    let long : i ≡ length (reverse (take i xs)) =
    omega (arith, length-reverse (take i xs), length-take i xs, c.loop-place-test.true) in
    subst (λ t. KnowsAnswers t (answers_in c.take.new.self))
    (ap (λ s. s ∷ reverse (take i xs)) c.index-trace-place.is ∙ one_line xs i d c.loop-place-test.true)
    (c.in_ok-take.ensures (reverse (take i xs)) c.loop-place.invariant long)
