use Rattle.picture_svg.proofs.Whole.{undrawn, written}
use Rattle.picture_svg.proofs.drawing.draw_text.Goals as goal

pub returns-in-Err : goal.returns-in-Err
returns-in-Err g c = record { draws = undrawn c.args.options.now c.in-Err.fault _ _ _ c.in-Err.ensures.unread }

pub returns-in-Ok : goal.returns-in-Ok
returns-in-Ok g c = record {
  draws =
      let d = c.in-Ok.drawer in
      let whole = c.in-Ok.ensures.whole in
      written c.args.options.now d.judge.bad.place d.judge.count d.picture c.write_drawn.result _ _ _ _ whole.0
      c.in-Ok.ensures.slots whole.1
      c.write_drawn.ensures.writes;
}
