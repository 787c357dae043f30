use Rattle.std.proofs.Common.{[], ◌+◌, ◌∷◌}
use Rattle.picture_svg.specs.Page.{note_svg}
use Rattle.picture_svg.specs.Scale.{bottom_of}
use Rattle.picture_svg.specs.declared.style.TheConstants.{BARS, MARKS}
use Rattle.picture_svg.proofs.Chains.{last, next}
use Rattle.picture_svg.proofs.page.push_closing.Goals as goal

pub returns : goal.returns
returns c = record {
  value =
      let s = c.args.scale.now in
      let t0 = c.args.text.now.items in
      let t1 = c.push_bars_note.new.text.items in
      let t2 = c.push_marks_note.new.text.items in
      let t3 = c.push_all.new.text.items in
      next t0 (note_svg (bottom_of s + 40) BARS.now) t1 t3 (note_svg (bottom_of s + 57) MARKS.now ∷ (60 ∷ 47
      ∷ 115 ∷ 118 ∷ 103 ∷ 62 ∷ 10 ∷ []) ∷ [])
      c.in_ok-push_bars_note.ensures.value
      (next t1 (note_svg (bottom_of s + 57) MARKS.now) t2 t3 ((60 ∷ 47 ∷ 115 ∷ 118 ∷ 103 ∷ 62 ∷ 10 ∷ []) ∷ [])
      c.in_ok-push_marks_note.ensures.value
      (last t2 (60 ∷ 47 ∷ 115 ∷ 118 ∷ 103 ∷ 62 ∷ 10 ∷ []) t3 c.in_ok-push_all.ensures.value));
}
