use Rattle.std.proofs.Common.{[], ap, ◌++◌, ◌∙◌, ◌∷◌}
use Rattle.std.specs.List.{concat}
use Rattle.std.specs.Prelude.{codes}
use Rattle.picture_svg.specs.declared.boxes.Frame.{Frame}
use Rattle.picture_svg.proofs.Chains.{last, next}
use Rattle.picture_svg.specs.Spans.{name_box, name_title}
use Rattle.picture_svg.proofs.spans.push_holder.Goals as goal

pub returns : goal.returns
returns c = record {
  value =
      let s = c.args.span.now in
      let n = c.args.name in
      let f = c.held_frame-frame.result in
      let title = name_title s.lba (codes ": held by ") n in
      let t0 = c.args.text.now.items in
      let t1 = c.push_name_title.new.text.items in
      let t2 = c.push_name_box.new.text.items in
      next t0 title t1 t2 (name_box f n ∷ []) c.in_ok-push_name_title.ensures.value
      (last t1 (name_box f n) t2 c.in_ok-push_name_box.ensures.value)
      ∙ ap (λ (g : Frame). t0 ++ concat (title ∷ name_box g n ∷ [])) c.held_frame-frame.ensures.value;
}
