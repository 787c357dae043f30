use Rattle.std.proofs.Common.{arith, drop, length, refl, rules, ◌<◌, ◌≡◌, ◌≤◌}
use Rattle.history.specs.Texts.{history_lines}
use Rattle.c_handles.proofs.PieceLines.{begun, reached_next, stopped}
use Rattle.c_handles.proofs.pieces.piece_of.Goals as goal

pub loop-place-init : goal.loop-place-init
loop-place-init c =
    begun (drop c.args.from (history_lines c.args.config.now c.args.entries.now)) c.args.from c.args.room _
    c.new-text.ensures.items

pub loop-place-preserved : goal.loop-place-preserved
loop-place-preserved c =
    let after : c.args.from ≤ c.loop-place.place = omega arith in
    reached_next (history_lines c.args.config.now c.args.entries.now) c.args.from c.loop-place.place c.args.room
    _ _ after c.in_ok-add_line.ensures c.loop-place.invariant (omega arith)

pub returns-then-len-room : goal.returns-then-len-room
returns-then-len-room c =
    let after : c.args.from ≤ c.loop-place.place = omega arith in
    let fit : c.len-fit.result ≡ length c.loop-place.text.items = search rules in
    let short : c.args.room < length c.add_line.new.text.items = search rules in
    stopped (history_lines c.args.config.now c.args.entries.now) c.args.from c.loop-place.place c.args.room
    c.loop-place.text.items c.add_line.new.text.items after c.in_ok-add_line.ensures c.loop-place.invariant
    (record { text = c.add_line.new.text; fit = c.len-fit.result; next = c.loop-place.place }) refl fit refl short
