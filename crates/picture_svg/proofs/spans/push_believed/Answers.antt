use Rattle.std.proofs.Common.{[], ap, ℕ, ◌++◌, ◌+◌, ◌∙◌, ◌∷◌}
use Rattle.std.specs.List.{concat}
use Rattle.std.specs.Prelude.{codes}
use Rattle.picture_svg.specs.declared.boxes.Frame.{Frame}
use Rattle.picture_svg.proofs.Chains.{last, next}
use Rattle.picture_svg.specs.Spans.{frame_of, name_box, name_title}
use Rattle.picture_svg.proofs.spans.push_believed.Goals as goal

pub returns : goal.returns
returns c = record {
  value =
      let y = c.args.layout.now in
      let b = c.args.belief.now in
      let f = c.frame_of-frame.result in
      let title = name_title b.slot.lba (codes ": believed to be held by ") b.slot.name in
      let t0 = c.args.text.now.items in
      let t1 = c.push_name_title.new.text.items in
      let t2 = c.push_name_box.new.text.items in
      next t0 title t1 t2 (name_box f b.slot.name ∷ []) c.in_ok-push_name_title.ensures.value
      (last t1 (name_box f b.slot.name) t2 c.in_ok-push_name_box.ensures.value)
      ∙ ap (λ (g : Frame). t0 ++ concat (title ∷ name_box g b.slot.name ∷ []))
      (c.frame_of-frame.ensures.value
      ∙ ap (λ (top : ℕ). frame_of y b.begun b.ended (top + 23)) c.slot_top.ensures.value);
}
