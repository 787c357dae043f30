use Rattle.std.proofs.Common.{[], ◌∷◌}
use Rattle.picture_svg.proofs.Chains.{last, next}
use Rattle.picture_svg.specs.SlotHolders.{upper_words, lane_line, lower_words}
use Rattle.picture_svg.proofs.slot_holders.push_lane_name.Goals as goal

pub returns : goal.returns
returns c = record {
  value =
      let line = lane_line c.args.layout.now c.args.top in
      let first = upper_words c.args.top c.args.name.now c.args.lba in
      let second = lower_words c.args.top c.args.second.now in
      let t0 = c.args.text.now.items in
      let t1 = c.push_line.new.text.items in
      let t2 = c.push_first.new.text.items in
      let t3 = c.push_second.new.text.items in
      next t0 line t1 t3 (first ∷ second ∷ []) c.in_ok-push_line.ensures.value
      (next t1 first t2 t3 (second ∷ []) c.in_ok-push_first.ensures.value
      (last t2 second t3 c.in_ok-push_second.ensures.value));
}
