use Rattle.std.proofs.Common.{[], ◌∷◌}
use Rattle.picture_svg.specs.Page.{done_svg, in_flight_svg, pending_svg, tickets_svg, units_svg}
use Rattle.picture_svg.proofs.Chains.{last, next}
use Rattle.picture_svg.proofs.page.push_shapes.Goals as goal

pub returns : goal.returns
returns c = record {
  value =
      let s = c.args.scale.now in
      let p = c.args.picture.now in
      let t0 = c.args.text.now.items in
      let t1 = c.push_done.new.text.items in
      let t2 = c.push_pending.new.text.items in
      let t3 = c.push_tickets.new.text.items in
      let t4 = c.push_flying.new.text.items in
      let t5 = c.push_units.new.text.items in
      next t0 (done_svg s p) t1 t5 (pending_svg s p ∷ tickets_svg s p ∷ in_flight_svg s p ∷ units_svg s p ∷ [])
      c.in_ok-push_done.ensures.value
      (next t1 (pending_svg s p) t2 t5 (tickets_svg s p ∷ in_flight_svg s p ∷ units_svg s p ∷ [])
      c.in_ok-push_pending.ensures.value
      (next t2 (tickets_svg s p) t3 t5 (in_flight_svg s p ∷ units_svg s p ∷ [])
      c.in_ok-push_tickets.ensures.value
      (next t3 (in_flight_svg s p) t4 t5 (units_svg s p ∷ [])
      c.in_ok-push_flying.ensures.value
      (last t4 (units_svg s p) t5 c.in_ok-push_units.ensures.value))));
}
