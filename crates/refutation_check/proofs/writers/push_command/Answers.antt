use Rattle.std.proofs.Common.{List, Some, ap, append-nil, map, reverse, sym, ◌++◌, ◌∙◌}
use Rattle.nvme_model.specs.declared.array.Range.{Range}
use Rattle.refutation.specs.EffectOrders.{EffectName}
use Rattle.refutation_check.specs.Collected.{effects_from}
use Rattle.refutation_check.specs.Commands.{name_of}
use Rattle.refutation_check.proofs.Kept.{none_write, some_write}
use Rattle.refutation_check.proofs.writers.push_command.Goals as goal

pub returns-then-not-may_write : goal.returns-then-not-may_write
returns-then-not-may_write c = record {
  value = λ k.
      let before = map name_of c.args.found.now.items in
      sym (append-nil before)
      ∙ ap (λ (ns : List EffectName). before ++ ns)
      (none_write c.args.known.now.config.now (reverse c.args.known.now.trace.now) c.args.queue c.args.number
      c.args.block
      (sym c.if-not-may_write.true ∙ c.may_write.ensures.value k));
}

pub returns : goal.returns
returns c = record {
  value = λ k.
      let before = map name_of c.args.found.now.items in
      c.in_ok-push_effects.ensures.value
      ∙ ap (λ (us : List Range). before ++ effects_from c.args.queue c.args.number 0 (Some c.args.block) us)
      c.as_slice.ensures.value
      ∙ ap (λ (ns : List EffectName). before ++ ns)
      (some_write c.args.known.now.config.now (reverse c.args.known.now.trace.now) c.args.queue c.args.number
      c.args.block
      c.in_ok-units.units.items (c.in_ok-units.ensures.value k.answers)
      (sym c.if-not-may_write.false ∙ c.may_write.ensures.value k));
}
