-- What is left of the text begins where the walk stands.
use Rattle.std.proofs.Common.{length, ◌+◌, ◌≡◌}
use Rattle.file_commands.proofs.walk.wrong_behind.Given as goal

abbrev pub invariant-loop-turn : goal.invariant-loop-turn
invariant-loop-turn l = l.at + length l.rest ≡ l.initial.at + length l.initial.rest
