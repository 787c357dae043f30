use Rattle.std.proofs.Common.{[], ◌∷◌}
use Rattle.picture_svg.specs.ColumnHeads.{hover_svg, kind_svg, line_svg, mark_svg, place_svg}
use Rattle.picture_svg.proofs.Chains.{last, next}
use Rattle.picture_svg.proofs.column_heads.HeadDrawn.push_svg.Goals as goal

pub returns : goal.returns
returns c = record {
  value =
      let s = c.args.scale.now in
      let h = c.args.self.now in
      let t0 = c.args.text.now.items in
      let t1 = c.push_line.new.text.items in
      let t2 = c.push_hover.new.text.items in
      let t3 = c.push_place.new.text.items in
      let t4 = c.push_kind.new.text.items in
      let t5 = c.push_mark.new.text.items in
      let t6 = c.push_all.new.text.items in
      next t0 (line_svg h) t1 t6 (hover_svg s h ∷ place_svg s h ∷ kind_svg s h ∷ mark_svg s h ∷ (60 ∷ 47 ∷ 103
      ∷ 62 ∷ 10 ∷ []) ∷ [])
      c.in_ok-push_line.ensures.value
      (next t1 (hover_svg s h) t2 t6 (place_svg s h ∷ kind_svg s h ∷ mark_svg s h ∷ (60 ∷ 47 ∷ 103 ∷ 62 ∷ 10
      ∷ []) ∷ [])
      c.in_ok-push_hover.ensures.value
      (next t2 (place_svg s h) t3 t6 (kind_svg s h ∷ mark_svg s h ∷ (60 ∷ 47 ∷ 103 ∷ 62 ∷ 10 ∷ []) ∷ [])
      c.in_ok-push_place.ensures.value
      (next t3 (kind_svg s h) t4 t6 (mark_svg s h ∷ (60 ∷ 47 ∷ 103 ∷ 62 ∷ 10 ∷ []) ∷ [])
      c.in_ok-push_kind.ensures.value
      (next t4 (mark_svg s h) t5 t6 ((60 ∷ 47 ∷ 103 ∷ 62 ∷ 10 ∷ []) ∷ [])
      c.in_ok-push_mark.ensures.value
      (last t5 (60 ∷ 47 ∷ 103 ∷ 62 ∷ 10 ∷ []) t6 c.in_ok-push_all.ensures.value)))));
}
