use Rattle.std.proofs.Common.{ap, subst, take, ◌∙◌, ◌∷◌}
use Rattle.std.specs.Prelude.{reverse}
use Rattle.refutation.specs.LineRules.{least_fetched}
use Rattle.refutation_check.specs.Answers.{KnowsAnswers, answers_in}
use Rattle.refutation_check.proofs.Steps.{line_number, one_line}
use Rattle.refutation_check.proofs.heads.least_fetched.Goals as goal

pub loop-place-preserved : goal.loop-place-preserved
loop-place-preserved c =
    let xs = c.args.trace.now in
    let i = c.loop-place.place in
    let newest = ap (λ s. s ∷ reverse (take i xs)) c.index-trace-place.is
    ∙ one_line xs i c.index-trace-place.result c.loop-place-test.true in (
      subst (λ t. KnowsAnswers t (answers_in c.take.new.self)) newest
          (c.in_ok-take.ensures (reverse (take i xs)) c.loop-place.invariant.0
          (line_number xs i c.loop-place-test.true)),
      c.in-Some.ensures.value c.loop-place.invariant.0 c.loop-place.invariant.1
          ∙ ap (λ t. least_fetched c.args.config.now t c.args.queue) newest,
    )
