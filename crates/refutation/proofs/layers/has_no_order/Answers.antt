use Rattle.std.proofs.Common.{ap, length, refl, sym, ◌==◌, ◌∙◌}
use Rattle.std.specs.List.{list_any}
use Rattle.refutation.specs.Layers.{next_layer}
use Rattle.refutation.specs.Orders.{is_whole}
use Rattle.refutation.proofs.Loops.{ends_step}
use Rattle.refutation.proofs.layers.has_no_order.Goals as goal

pub steps-preserved : goal.steps-preserved
steps-preserved c = (
  refl,
  ends_step c.args.blank.now c.args.slice.now c.steps.layer.items c.in_ok-layer.layer.items c.steps.counter _
      c.steps-test.true
      (ap (λ xs. length xs == 0) (sym c.as_slice.ensures.value) ∙ sym c.is_empty.ensures ∙ c.if-is_empty.false)
      (ap (list_any (is_whole c.args.slice.now)) (sym c.as_slice-in-steps.ensures.value) ∙ sym c.has_whole.ensures
      ∙ c.if-has_whole.false)
      (c.in_ok-layer.ensures ∙ ap (next_layer c.args.blank.now c.args.slice.now) c.as_slice-in-steps-2.ensures.value)
      ∙ c.steps.invariant.1,
)
