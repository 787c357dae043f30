use Rattle.std.proofs.Common.{◌∙◌, None, reverse, sym}
use Rattle.std.proofs.lemmas.List.{length-reverse}
use Rattle.refutation_check.proofs.SlicePlaces.{lines_by_place}
use Rattle.refutation_check.proofs.order.lines_before.Goals as goal

pub returns-in-None : goal.returns-in-None
returns-in-None c =
    let lines = c.args.known.now.trace.now in
    record {
      value = λ k. sym (length-reverse lines)
          ∙ sym (lines_by_place (reverse lines) c.args.queue c.args.number None
          (sym c.in-None.is ∙ (c.place.ensures.value ∙ k.answers.entries c.args.queue c.args.number)));
    }
