use Rattle.std.proofs.Common.{Bool, None, [], ap, cond, sym, ◌++◌, ◌∙◌}
use Rattle.picture_shapes.specs.Blocks.{medium_span}
use Rattle.picture_shapes.specs.declared.block.Span.{Span}
use Rattle.picture_svg.specs.Spans.{span_svg}
use Rattle.picture_svg.proofs.spans.push_other_now.Goals as goal

pub returns-in_ok-push_span : goal.returns-in_ok-push_span
returns-in_ok-push_span c = record {
  value =
      let y = c.args.layout.now in
      let b = c.args.block.now in
      let t0 = c.args.text.now.items in
      c.in_ok-push_span.ensures.value
      ∙ ap (λ (s : Span). t0 ++ span_svg y s) c.medium_span-span.ensures.value
      ∙ ap (λ (d : Bool). t0 ++ cond d (span_svg y (medium_span None b)) [])
      (sym (sym c.differs.ensures.value ∙ c.if-differs.true));
}
