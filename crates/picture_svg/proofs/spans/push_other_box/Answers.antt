use Rattle.std.proofs.Common.{[], ap, ◌++◌, ◌∙◌, ◌∷◌}
use Rattle.std.specs.List.{concat}
use Rattle.std.specs.Prelude.{codes}
use Rattle.picture_svg.specs.declared.boxes.Frame.{Frame}
use Rattle.picture_svg.proofs.Chains.{last, next}
use Rattle.picture_svg.specs.Spans.{data_box, slot_told}
use Rattle.picture_svg.proofs.spans.push_other_box.Goals as goal

pub returns : goal.returns
returns c = record {
  value =
      let s = c.args.span.now in
      let f = c.held_frame-frame.result in
      let said = codes ": no name</title>" in
      let t0 = c.args.text.now.items in
      let t1 = c.push_slot.new.text.items in
      let t2 = c.push_data_box.new.text.items in
      next t0 (slot_told s.lba said) t1 t2 (data_box f s.content ∷ [])
      c.in_ok-push_slot.ensures.value
      (last t1 (data_box f s.content) t2 c.in_ok-push_data_box.ensures.value)
      ∙ ap (λ (g : Frame). t0 ++ concat (slot_told s.lba said ∷ data_box g s.content ∷ []))
      c.held_frame-frame.ensures.value;
}
