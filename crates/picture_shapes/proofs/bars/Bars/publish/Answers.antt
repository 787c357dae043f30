use Rattle.std.proofs.Common.{◌+◌, drop, sym, ap, ◌∙◌}
use Rattle.std.proofs.lemmas.List.{drop_all, drop_more}
use Rattle.picture_shapes.specs.Bars.{bar_published, bars_published}
use Rattle.picture_shapes.proofs.bars.Bars.publish.Goals as goal

pub loop-item-preserved : goal.loop-item-preserved
loop-item-preserved c =
    let items = c.as_slice-items.result.now in
    let config = c.args.config.now in
    let place = c.args.place in
    let queue = c.args.line.now.queue in
    let i = c.loop-item.item-index in
    let item = c.item-item.result in
    c.loop-item.invariant
    ∙ ap (λ xs. bars_published config place queue xs c.loop-item.self) (drop_more items i item c.loop-item-test.true)
    ∙ ap (λ x. bars_published config place queue (drop (i + 1) items)
    (bar_published config place queue x c.loop-item.self)) (sym c.item-item.is)
    ∙ ap (bars_published config place queue (drop (i + 1) items)) (sym c.in_ok-publish_one.ensures.value)

pub returns : goal.returns
returns c = record {
  value =
      let items = c.as_slice-items.result.now in
      let run = bars_published c.args.config.now c.args.place c.args.line.now.queue in
      sym (ap (λ xs. run xs c.args.self.now) (sym c.as_slice-items.ensures.value) ∙ c.loop-item.invariant
      ∙ ap (λ xs. run xs c.loop-item.self) (drop_all c.loop-item.item-index items c.loop-item-test.false));
}
