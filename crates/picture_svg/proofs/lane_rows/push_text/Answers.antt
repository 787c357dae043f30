use Rattle.std.proofs.Common.{[], ◌∷◌}
use Rattle.picture_svg.proofs.Chains.{last, next}
use Rattle.picture_svg.specs.LaneRows.{blocks_svg, ended_beliefs_svg, lasting_svg, lane_names_svg, spans_svg}
use Rattle.picture_svg.specs.declared.lane_style.TheConstants.{LANE_STYLE}
use Rattle.picture_svg.proofs.lane_rows.push_text.Goals as goal

pub returns : goal.returns
returns c = record {
  value =
      let y = c.args.layout.now in
      let s = c.args.lanes.now in
      let t0 = c.args.text.now.items in
      let t1 = c.push_style.new.text.items in
      let t2 = c.push_names.new.text.items in
      let t3 = c.push_spans.new.text.items in
      let t4 = c.push_blocks.new.text.items in
      let t5 = c.push_done.new.text.items in
      let t6 = c.push_lasting.new.text.items in
      next t0 LANE_STYLE.now t1 t6 (lane_names_svg y ∷ spans_svg y s ∷ blocks_svg y s ∷ ended_beliefs_svg y s
      ∷ lasting_svg y s ∷ [])
      c.in_ok-push_style.ensures.value
      (next t1 (lane_names_svg y) t2 t6 (spans_svg y s ∷ blocks_svg y s ∷ ended_beliefs_svg y s ∷ lasting_svg y s ∷ [])
      c.in_ok-push_names.ensures.value
      (next t2 (spans_svg y s) t3 t6 (blocks_svg y s ∷ ended_beliefs_svg y s ∷ lasting_svg y s ∷ [])
      c.in_ok-push_spans.ensures.value
      (next t3 (blocks_svg y s) t4 t6 (ended_beliefs_svg y s ∷ lasting_svg y s ∷ [])
      c.in_ok-push_blocks.ensures.value
      (next t4 (ended_beliefs_svg y s) t5 t6 (lasting_svg y s ∷ [])
      c.in_ok-push_done.ensures.value
      (last t5 (lasting_svg y s) t6 c.in_ok-push_lasting.ensures.value)))));
}
