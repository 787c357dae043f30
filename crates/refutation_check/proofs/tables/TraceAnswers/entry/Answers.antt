use Rattle.std.proofs.Common.{ap, sym, ◌∙◌}
use Rattle.std.specs.Prelude.{reverse}
use Rattle.std.proofs.lemmas.List.{reverse-reverse}
use Rattle.refutation_check.specs.Answers.{entry_at, entry_place}
use Rattle.refutation_check.proofs.Places.{place_is}
use Rattle.refutation_check.proofs.tables.TraceAnswers.entry.Goals as goal

pub returns : goal.returns
returns c = record {
  value = λ is.
      let trace = c.args.trace.now in
      let q = c.args.queue in
      let j = c.args.number in
      c.entry_at.ensures ∙ ap (entry_at trace) (c.place.ensures.value ∙ is.entries q j)
      ∙ ap (λ xs. entry_at xs (entry_place (reverse trace) q j)) (sym (reverse-reverse trace))
      ∙ place_is (reverse trace) q j;
}
