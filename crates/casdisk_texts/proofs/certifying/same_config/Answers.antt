use Rattle.std.proofs.Common.{sym, ◌∙◌}
use Rattle.casdisk_texts.proofs.Configurations.{are_same, numbers_same}
use Rattle.casdisk_texts.proofs.certifying.same_config.Goals as goal

pub returns : goal.returns
returns c = record {
  value = (
    λ e. sym c.numbers.ensures.value ∙ are_same c.numbers.result c.numbers-2.result (sym c.eq.ensures ∙ e)
        ∙ c.numbers-2.ensures.value,
    λ e. c.eq.ensures ∙ numbers_same c.numbers.result c.numbers-2.result
        (c.numbers.ensures.value ∙ e ∙ sym c.numbers-2.ensures.value),
  );
}
