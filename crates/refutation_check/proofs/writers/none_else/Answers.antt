use Rattle.std.proofs.Common.{Bool, ap, map, reverse, ◌∙◌, ◌≡◌}
use Rattle.std.proofs.lemmas.Result.{IfOk-weaker}
use Rattle.refutation.specs.Slices.{none_else}
use Rattle.refutation.specs.Writers.{none_by}
use Rattle.refutation_check.specs.Commands.{name_of}
use Rattle.refutation_check.specs.Fits.{fits}
use Rattle.refutation_check.proofs.Leavers.{none_of_all}
use Rattle.refutation_check.proofs.writers.none_else.Goals as goal

pub returns : goal.returns
returns c = record {
  value = λ k.
      let known = c.args.chosen.now.known in
      let trace = reverse known.trace.now in
      let names = map name_of c.args.chosen.now.names.now in
      let asked = c.args.asked.now in
      let writers = map name_of c.as_slice.result.now in
      IfOk-weaker c.none_by.result
      (λ (b : Bool). b ≡ none_by known.options.now known.config.now trace writers names (name_of c.args.effect.now)
      asked.block (fits asked.other asked.bytes.now))
      (λ (b : Bool). b ≡ none_else known.options.now known.config.now trace names (name_of c.args.effect.now)
      asked.block
      (fits asked.other asked.bytes.now))
      (λ b e. e ∙ none_of_all known.options.now known.config.now trace names (name_of c.args.effect.now) asked.block
      (fits asked.other asked.bytes.now) writers
      (ap (map name_of) c.as_slice.ensures.value ∙ c.in_ok-writers.ensures.value k))
      (c.none_by.ensures.value k);
}
