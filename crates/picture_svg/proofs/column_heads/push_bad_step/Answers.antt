use Rattle.std.proofs.Common.{[], ◌∷◌}
use Rattle.picture_svg.specs.ColumnHeads.{rule_svg, shade_svg, why_svg}
use Rattle.picture_svg.proofs.Chains.{last, next}
use Rattle.picture_svg.proofs.column_heads.push_bad_step.Goals as goal

pub returns : goal.returns
returns c = record {
  value =
      let s = c.args.scale.now in
      let b = c.args.bad.now in
      let t0 = c.args.text.now.items in
      let t1 = c.push_shade.new.text.items in
      let t2 = c.push_rule.new.text.items in
      let t3 = c.push_why.new.text.items in
      next t0 (shade_svg s b) t1 t3 (rule_svg s b ∷ why_svg s b ∷ [])
      c.in_ok-push_shade.ensures.value
      (next t1 (rule_svg s b) t2 t3 (why_svg s b ∷ [])
      c.in_ok-push_rule.ensures.value
      (last t2 (why_svg s b) t3 c.in_ok-push_why.ensures.value));
}
