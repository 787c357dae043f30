use Rattle.std.proofs.Common.{[], ◌++◌, ◌∷◌}
use Rattle.std.specs.Prelude.{codes}
use Rattle.picture_svg.specs.LaneNames.{tickets_line_svg}
use Rattle.picture_svg.proofs.Chains.{last, next}
use Rattle.picture_svg.proofs.lane_names.push_in_flight.Goals as goal

pub returns : goal.returns
returns c = record {
  value =
      let s = c.args.scale.now in
      let t0 = c.args.text.now.items in
      let t1 = c.push_tickets_line.new.text.items in
      let t2 = c.push_all.new.text.items in
      next t0 (tickets_line_svg s) t1 t2 ((codes "in flight</text>" ++ 10 ∷ []) ∷ [])
      c.in_ok-push_tickets_line.ensures.value
      (last t1 (codes "in flight</text>" ++ 10 ∷ []) t2 c.in_ok-push_all.ensures.value);
}
