use Rattle.std.proofs.Common.{[], ◌∷◌}
use Rattle.picture_svg.specs.Page.{ground_svg, size_svg, view_svg}
use Rattle.picture_svg.specs.declared.style.TheConstants.{STYLE}
use Rattle.picture_svg.proofs.Chains.{last, next}
use Rattle.picture_svg.proofs.page.push_opening.Goals as goal

pub returns : goal.returns
returns c = record {
  value =
      let s = c.args.scale.now in
      let p = c.args.picture.now in
      let t0 = c.args.text.now.items in
      let t1 = c.push_view.new.text.items in
      let t2 = c.push_size.new.text.items in
      let t3 = c.push_style.new.text.items in
      let t4 = c.push_ground.new.text.items in
      next t0 (view_svg s p) t1 t4 (size_svg s p ∷ STYLE.now ∷ ground_svg s p ∷ [])
      c.in_ok-push_view.ensures.value
      (next t1 (size_svg s p) t2 t4 (STYLE.now ∷ ground_svg s p ∷ [])
      c.in_ok-push_size.ensures.value
      (next t2 (STYLE.now) t3 t4 (ground_svg s p ∷ [])
      c.in_ok-push_style.ensures.value
      (last t3 (ground_svg s p) t4 c.in_ok-push_ground.ensures.value)));
}
