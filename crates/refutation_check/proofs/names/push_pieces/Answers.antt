use Rattle.std.proofs.Common.{List, None, ap, append-nil, false, map, reverse, sym, true, ◌++◌, ◌∙◌}
use Rattle.nvme_model.specs.declared.array.Range.{Range}
use Rattle.refutation.specs.EffectOrders.{EffectName}
use Rattle.refutation_check.specs.Collected.{effects_from}
use Rattle.refutation_check.specs.Commands.{name_of}
use Rattle.refutation_check.proofs.Named.{pieces_of}
use Rattle.refutation_check.proofs.names.push_pieces.Goals as goal

pub returns-then-not-are_pieces : goal.returns-then-not-are_pieces
returns-then-not-are_pieces c = record {
  value = λ k.
      let before = map name_of c.args.found.now.items in
      sym (append-nil before)
      ∙ ap (λ (ns : List EffectName). before ++ ns)
      (pieces_of c.args.known.now.config.now (reverse c.args.known.now.trace.now) c.args.queue c.args.number false
      c.in_ok-units.units.items c.len.result (c.in_ok-units.ensures.value k.answers)
      (c.len.ensures ∙ c.in_ok-units.units.ok.0)
      (sym c.if-not-are_pieces.true ∙ c.are_pieces.ensures.value k));
}

pub returns : goal.returns
returns c = record {
  value = λ k.
      let before = map name_of c.args.found.now.items in
      c.in_ok-push_effects.ensures.value
      ∙ ap (λ (us : List Range). before ++ effects_from c.args.queue c.args.number 0 None us) c.as_slice.ensures.value
      ∙ ap (λ (ns : List EffectName). before ++ ns)
      (pieces_of c.args.known.now.config.now (reverse c.args.known.now.trace.now) c.args.queue c.args.number true
      c.in_ok-units.units.items c.len.result (c.in_ok-units.ensures.value k.answers)
      (c.len.ensures ∙ c.in_ok-units.units.ok.0)
      (sym c.if-not-are_pieces.false ∙ c.are_pieces.ensures.value k));
}
