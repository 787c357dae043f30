use Rattle.line_text.proofs.NumberLaws.{AddedUp}
use Rattle.line_text.proofs.number.added_up.Given as goal

abbrev pub invariant-loop-byte : goal.invariant-loop-byte
invariant-loop-byte l = AddedUp l.word l.byte-index l.n
