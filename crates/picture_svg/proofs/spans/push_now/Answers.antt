use Rattle.std.proofs.Common.{None, [], ap, ◌++◌, ◌∙◌, ◌∷◌}
use Rattle.picture_shapes.specs.Blocks.{seen_span}
use Rattle.picture_shapes.specs.declared.block.Span.{Span}
use Rattle.picture_svg.proofs.Chains.{last, next}
use Rattle.picture_svg.specs.Spans.{other_now, span_svg}
use Rattle.picture_svg.proofs.spans.push_now.Goals as goal

pub returns : goal.returns
returns c = record {
  value =
      let y = c.args.layout.now in
      let b = c.args.block.now in
      let t0 = c.args.text.now.items in
      let t1 = c.push_span.new.text.items in
      let t2 = c.push_other_now.new.text.items in
      next t0 (span_svg y (seen_span None b)) t1 t2 (other_now y b ∷ [])
      (c.in_ok-push_span.ensures.value ∙ ap (λ (s : Span). t0 ++ span_svg y s) c.seen_span-span.ensures.value)
      (last t1 (other_now y b) t2 c.in_ok-push_other_now.ensures.value);
}
