use Rattle.std.proofs.Common.{◌+◌, drop, sym, ap, ◌∙◌}
use Rattle.std.proofs.lemmas.List.{drop_all, drop_more}
use Rattle.picture_shapes.specs.Lanes.{lane_published, lanes_published}
use Rattle.picture_shapes.proofs.lanes.Lanes.publish.Goals as goal

pub loop-item-preserved : goal.loop-item-preserved
loop-item-preserved c =
    let items = c.as_slice-items.result.now in
    let from = c.args.from in
    let place = c.args.place in
    let queue = c.args.line.now.queue in
    let i = c.loop-item.item-index in
    let item = c.item-item.result in
    c.loop-item.invariant
    ∙ ap (λ xs. lanes_published from place queue xs c.loop-item.self) (drop_more items i item c.loop-item-test.true)
    ∙ ap (λ x. lanes_published from place queue (drop (i + 1) items)
    (lane_published from place queue x c.loop-item.self)) (sym c.item-item.is)
    ∙ ap (lanes_published from place queue (drop (i + 1) items)) (sym c.in_ok-publish_one.ensures.value)

pub returns : goal.returns
returns c = record {
  value =
      let items = c.as_slice-items.result.now in
      let run = lanes_published c.args.from c.args.place c.args.line.now.queue in
      sym (ap (λ xs. run xs c.args.self.now) (sym c.as_slice-items.ensures.value) ∙ c.loop-item.invariant
      ∙ ap (λ xs. run xs c.loop-item.self) (drop_all c.loop-item.item-index items c.loop-item-test.false));
}
