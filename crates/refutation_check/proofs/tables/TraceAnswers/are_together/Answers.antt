use Rattle.std.proofs.Common.{sym, ◌∙◌}
use Rattle.refutation_check.specs.Answers.{are_at_one_line}
use Rattle.refutation_check.proofs.Together.{together}
use Rattle.refutation_check.proofs.tables.TraceAnswers.are_together.Goals as goal

pub returns : goal.returns
returns c = record {
  value = λ trace is.
      c.are_at_one_line.ensures
      ∙ (λ t. are_at_one_line ((c.place.ensures.value ∙ is.entries c.args.queue c.args.number) t)
      (c.place_behind.ensures.value trace is t))
      ∙ sym (together trace c.args.queue c.args.number);
}
