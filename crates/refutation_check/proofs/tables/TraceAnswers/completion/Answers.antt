use Rattle.std.proofs.Common.{ap, sym, ◌∙◌}
use Rattle.std.specs.Prelude.{reverse}
use Rattle.std.proofs.lemmas.List.{reverse-reverse}
use Rattle.refutation_check.specs.Answers.{answer_place, reaped_at}
use Rattle.refutation_check.proofs.Places.{answer_is}
use Rattle.refutation_check.proofs.tables.TraceAnswers.completion.Goals as goal

pub returns : goal.returns
returns c = record {
  value = λ is.
      let trace = c.args.trace.now in
      let q = c.args.queue in
      let j = c.args.number in
      c.reaped_at.ensures ∙ ap (reaped_at trace) (c.answer.ensures.value ∙ is.answers q j)
      ∙ ap (λ xs. reaped_at xs (answer_place (reverse trace) q j)) (sym (reverse-reverse trace))
      ∙ answer_is (reverse trace) q j;
}
