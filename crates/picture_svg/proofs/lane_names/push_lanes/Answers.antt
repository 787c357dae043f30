use Rattle.std.proofs.Common.{◌+◌, ◌++◌, ap, append_assoc, drop, false, get_or, sym, take, ◌∙◌}
use Rattle.std.proofs.lemmas.List.{drop_more}
use Rattle.picture_shapes.specs.declared.rows.LaneRow.{LaneRow}
use Rattle.picture_svg.specs.LaneNames.{lanes_from, row_svg}
use Rattle.picture_svg.proofs.lane_names.push_lanes.Goals as goal

pub loop-i-preserved : goal.loop-i-preserved
loop-i-preserved c =
    let s = c.args.scale.now in
    let tops = c.args.tops.now in
    let name = c.args.name.now in
    let rows = c.args.rows.now in
    let i = c.loop-i.i in
    let text = c.loop-i.text.items in
    let none : LaneRow = record { lane = 0; used = false } in
    let row = get_or rows i none in
    let rest = lanes_from s tops name rows (i + 1) (drop (i + 1) rows) in
    c.loop-i.invariant
    ∙ ap (λ l. text ++ lanes_from s tops name rows i l) (drop_more rows i none c.loop-i-test.true)
    ∙ ap (λ k. text ++ (row_svg s k name (take i rows) row ++ rest)) (sym c.top_at.ensures.value)
    ∙ sym (append_assoc text (row_svg s c.top_at.result name (take i rows) row) rest)
    ∙ ap (λ t. t ++ rest) (sym c.in_ok-push_row.ensures.value)
