-- The block that is read begins no later than where the reading stands.
use Rattle.std.proofs.Common.{◌≤◌}
use Rattle.file_commands.proofs.spelling.wrong_blocks.Given as goal

abbrev pub invariant-loop-end : goal.invariant-loop-end
invariant-loop-end l = l.begin ≤ l.end
