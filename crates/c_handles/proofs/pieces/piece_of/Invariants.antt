use Rattle.std.proofs.Common.{drop, ◌-◌}
use Rattle.history.specs.Texts.{history_lines}
use Rattle.c_handles.proofs.PieceLines.{Reached}
use Rattle.c_handles.proofs.pieces.piece_of.Given as goal

abbrev pub invariant-loop-place : goal.invariant-loop-place
invariant-loop-place l =
    Reached (drop l.from (history_lines l.config l.entries)) (l.place - l.from) l.room l.text.items
