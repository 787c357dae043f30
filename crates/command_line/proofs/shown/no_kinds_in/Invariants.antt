-- What is left of the text is text.
use denote.Text.{Utf8}
use denote.Shadow.{shadow}
use Rattle.command_line.proofs.shown.no_kinds_in.Given as goal

abbrev pub invariant-loop-turn : goal.invariant-loop-turn
invariant-loop-turn l = shadow (Utf8 l.rest)
