use Rattle.std.proofs.Common.{[], ◌∷◌}
use Rattle.std.specs.Prelude.{flat_map}
use Rattle.picture_svg.proofs.Chains.{last, next}
use Rattle.picture_svg.specs.Seen.{seen_head}
use Rattle.picture_svg.specs.declared.style.TheConstants.{SEEN_STYLE}
use Rattle.picture_svg.proofs.seen.push_witness.Goals as goal

pub returns : goal.returns
returns c = record {
  value =
      let bands = flat_map (seen_head c.args.scale.now) c.args.heads.now in
      let t0 = c.args.text.now.items in
      let t1 = c.push_style.new.text.items in
      let t2 = c.push_bands.new.text.items in
      next t0 SEEN_STYLE.now t1 t2 (bands ∷ []) c.in_ok-push_style.ensures.value
      (last t1 bands t2 c.in_ok-push_bands.ensures.value);
}
