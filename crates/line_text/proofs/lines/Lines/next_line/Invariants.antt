-- What was read is the line so far, and nothing is held.
use Rattle.std.proofs.Common.{◌≡◌, ◌≤◌, []}
use Rattle.std.specs.Vec.{vec_capacity}
use Rattle.line_text.specs.Lines.{GivesFront}
use Rattle.line_text.proofs.lines.Lines.next_line.Given as goal

abbrev pub invariant-loop : goal.invariant-loop
invariant-loop g l = record {
  given : GivesFront (g.R.Read.remaining l.initial.reader) (g.R.Read.remaining l.reader) l.fn.self l.self l.line.items;
  empty : l.self ≡ [];
  room : vec_capacity l.fn.line ≤ vec_capacity l.line;
}
