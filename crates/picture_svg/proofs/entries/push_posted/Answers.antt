use Rattle.std.proofs.Common.{[], ◌∷◌}
use Rattle.picture_svg.specs.Entries.{box_svg, cid_svg, status_svg}
use Rattle.picture_svg.proofs.Chains.{last, next}
use Rattle.picture_svg.proofs.entries.push_posted.Goals as goal

pub returns : goal.returns
returns c = record {
  value =
      let s = c.args.scale.now in
      let r = c.args.reaped in
      let p = c.args.posted.now in
      let t0 = c.args.text.now.items in
      let t1 = c.push_box.new.text.items in
      let t2 = c.push_cid.new.text.items in
      let t3 = c.push_status.new.text.items in
      next t0 (box_svg s r p) t1 t3 (cid_svg s p ∷ status_svg s r p ∷ [])
      c.in_ok-push_box.ensures.value
      (next t1 (cid_svg s p) t2 t3 (status_svg s r p ∷ [])
      c.in_ok-push_cid.ensures.value
      (last t2 (status_svg s r p) t3 c.in_ok-push_status.ensures.value));
}
