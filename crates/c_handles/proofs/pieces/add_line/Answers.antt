use Rattle.std.proofs.Common.{arith, length, ◌+◌, ◌<◌, ◌≡◌}
use Rattle.std.proofs.lemmas.Result.{on_ok_weaker}
use Rattle.c_handles.proofs.PieceLines.{adds_entry}
use Rattle.c_handles.proofs.pieces.add_line.Goals as goal

pub returns-in-Some : goal.returns-in-Some
returns-in-Some c =
    let at : c.args.place ≡ c.in-Some.behind + 1 = omega arith in
    let low : c.in-Some.behind < length c.args.entries.now = omega arith in
    on_ok_weaker c.add_entry.result (adds_entry c.args.config.now c.args.entries.now c.args.place c.in-Some.behind
    c.index-entries-behind.result c.args.text.now.items c.add_entry.new.text.items at low c.index-entries-behind.is)
    c.add_entry.ensures
