use Rattle.std.proofs.Common.{[], ◌∷◌}
use Rattle.picture_svg.specs.ColumnHeads.{bad_svg}
use Rattle.picture_svg.specs.Page.{beside_svg, cells_svg, closing_svg, heads_svg, names_svg, opening_svg, shapes_svg}
use Rattle.picture_svg.specs.Seen.{seen_svg}
use Rattle.picture_svg.proofs.Chains.{last, next}
use Rattle.picture_svg.proofs.page.push_page.Goals as goal

pub returns : goal.returns
returns c = record {
  value =
      let s = c.args.scale.now in
      let p = c.args.picture.now in
      let lanes = beside_svg s p in
      let t0 = c.args.text.now.items in
      let t1 = c.push_opening.new.text.items in
      let t2 = c.push_seen.new.text.items in
      let t3 = c.push_names.new.text.items in
      let t4 = c.push_shapes.new.text.items in
      let t5 = c.push_beside.new.text.items in
      let t6 = c.push_heads.new.text.items in
      let t7 = c.push_cells.new.text.items in
      let t8 = c.push_bad.new.text.items in
      let t9 = c.push_closing.new.text.items in
      next t0 (opening_svg s p) t1 t9 (seen_svg s p.heads p.subject ∷ names_svg s p ∷ shapes_svg s p ∷ lanes
      ∷ heads_svg s p ∷ cells_svg s p ∷ bad_svg s p.bad ∷ closing_svg s ∷ [])
      c.in_ok-push_opening.ensures.value
      (next t1 (seen_svg s p.heads p.subject) t2 t9 (names_svg s p ∷ shapes_svg s p ∷ lanes ∷ heads_svg s p
      ∷ cells_svg s p ∷ bad_svg s p.bad ∷ closing_svg s ∷ [])
      c.in_ok-push_seen.ensures.value
      (next t2 (names_svg s p) t3 t9 (shapes_svg s p ∷ lanes ∷ heads_svg s p ∷ cells_svg s p ∷ bad_svg s p.bad
      ∷ closing_svg s ∷ [])
      c.in_ok-push_names.ensures.value
      (next t3 (shapes_svg s p) t4 t9 (lanes ∷ heads_svg s p ∷ cells_svg s p ∷ bad_svg s p.bad ∷ closing_svg s ∷ [])
      c.in_ok-push_shapes.ensures.value
      (next t4 lanes t5 t9 (heads_svg s p ∷ cells_svg s p ∷ bad_svg s p.bad ∷ closing_svg s ∷ [])
      c.in_ok-push_beside.ensures.value
      (next t5 (heads_svg s p) t6 t9 (cells_svg s p ∷ bad_svg s p.bad ∷ closing_svg s ∷ [])
      c.in_ok-push_heads.ensures.value
      (next t6 (cells_svg s p) t7 t9 (bad_svg s p.bad ∷ closing_svg s ∷ [])
      c.in_ok-push_cells.ensures.value
      (next t7 (bad_svg s p.bad) t8 t9 (closing_svg s ∷ [])
      c.in_ok-push_bad.ensures.value
      (last t8 (closing_svg s) t9 c.in_ok-push_closing.ensures.value))))))));
}
