use Rattle.std.proofs.Common.{[], ap, ap₂, ℕ, ◌++◌, ◌+◌, ◌∙◌, ◌∷◌}
use Rattle.std.specs.List.{concat}
use Rattle.picture_svg.specs.declared.boxes.Frame.{Frame}
use Rattle.picture_svg.proofs.Chains.{last, next}
use Rattle.picture_svg.specs.LaneBoxes.{value_label}
use Rattle.picture_svg.specs.Spans.{frame_of, value_rect, value_title}
use Rattle.picture_svg.proofs.spans.push_value.Goals as goal

pub returns : goal.returns
returns c = record {
  value =
      let y = c.args.layout.now in
      let s = c.args.span.now in
      let f = c.frame_of-frame.result in
      let rect = value_rect s.kind s.content f in
      let label = value_label f s.content in
      let t0 = c.args.text.now.items in
      let t1 = c.push_value_title.new.text.items in
      let t2 = c.push_value_rect.new.text.items in
      let t3 = c.push_value_label.new.text.items in
      let t4 = c.push_all.new.text.items in
      next t0 (value_title s) t1 t4 (rect ∷ label ∷ (60 ∷ 47 ∷ 103 ∷ 62 ∷ 10 ∷ []) ∷ [])
      c.in_ok-push_value_title.ensures.value
      (next t1 rect t2 t4 (label ∷ (60 ∷ 47 ∷ 103 ∷ 62 ∷ 10 ∷ []) ∷ []) c.in_ok-push_value_rect.ensures.value
      (next t2 label t3 t4 ((60 ∷ 47 ∷ 103 ∷ 62 ∷ 10 ∷ []) ∷ []) c.in_ok-push_value_label.ensures.value
      (last t3 (60 ∷ 47 ∷ 103 ∷ 62 ∷ 10 ∷ []) t4 c.in_ok-push_all.ensures.value)))
      ∙ ap (λ (g : Frame). t0 ++ concat (value_title s ∷ value_rect s.kind s.content g ∷ value_label g s.content
      ∷ (60 ∷ 47 ∷ 103 ∷ 62 ∷ 10 ∷ []) ∷ []))
      (c.frame_of-frame.ensures.value
      ∙ ap (λ (top : ℕ). frame_of y s.begun s.ended top)
      (ap₂ (λ (a b : ℕ). a + b) c.block_top.ensures.value c.span_kind_below.ensures.value));
}
