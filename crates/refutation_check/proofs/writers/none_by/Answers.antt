use Rattle.std.proofs.Common.{Bool, ap, length, map, reverse, sym, ◌∙◌, ◌≡◌}
use Rattle.std.proofs.lemmas.Bool.{eqb-true}
use Rattle.std.proofs.lemmas.Result.{IfOk-weaker}
use Rattle.std.specs.List.{list_all, list_any}
use Rattle.refutation.specs.EffectOrders.{EffectName, comes_before}
use Rattle.refutation.specs.Writers.{none_by}
use Rattle.refutation_check.specs.Commands.{name_of}
use Rattle.refutation_check.specs.Fits.{fits}
use Rattle.refutation_check.proofs.Leavers.{none_found, none_left}
use Rattle.refutation_check.proofs.writers.none_by.Goals as goal

pub returns-then-is_empty : goal.returns-then-is_empty
returns-then-is_empty c = record {
  value = λ k.
      let known = c.args.chosen.now.known in
      let asked = c.args.asked.now in
      let left = c.as_slice-left.result.now in
      none_left known.options.now known.config.now (reverse known.trace.now) (map name_of c.args.chosen.now.names.now)
      (name_of c.args.effect.now) asked.block (fits asked.other asked.bytes.now) (map name_of c.args.writers.now) left
      (ap (map name_of) c.as_slice-left.ensures.value ∙ c.in_ok-found.ensures.value k)
      (eqb-true (length left) 0 (sym c.is_empty.ensures ∙ c.if-is_empty.true));
}

pub returns : goal.returns
returns c = record {
  value = λ k.
      let known = c.args.chosen.now.known in
      let trace = reverse known.trace.now in
      let names = map name_of c.args.chosen.now.names.now in
      let asked = c.args.asked.now in
      let writers = map name_of c.args.writers.now in
      let left = map name_of c.as_slice-left.result.now in
      let later = map name_of c.as_slice.result.now in
      IfOk-weaker c.all_covered.result
      (λ (b : Bool). b
      ≡ list_all (λ (y : EffectName). list_any (comes_before known.options.now known.config.now trace y) later) left)
      (λ (b : Bool). b ≡ none_by known.options.now known.config.now trace writers names (name_of c.args.effect.now)
      asked.block (fits asked.other asked.bytes.now))
      (λ b e. e ∙ none_found known.options.now known.config.now trace names (name_of c.args.effect.now) asked.block
      (fits asked.other asked.bytes.now) writers left later
      (ap (map name_of) c.as_slice-left.ensures.value ∙ c.in_ok-found.ensures.value k)
      (ap (map name_of) c.as_slice.ensures.value ∙ c.in_ok-later.ensures.value k))
      (c.all_covered.ensures.value k);
}
