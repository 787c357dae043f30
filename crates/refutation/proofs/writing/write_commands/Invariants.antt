-- What was written.
use Rattle.std.proofs.Common.{map, take}
use Rattle.std.specs.Io.KnownBytes.{Appends}
use Rattle.line_text.specs.Lines.{with_feeds}
use Rattle.refutation.specs.Texts.{command_line}
use Rattle.refutation.proofs.writing.write_commands.Given as goal

abbrev pub invariant-loop-queue : goal.invariant-loop-queue
invariant-loop-queue g l =
    Appends (g.W.Write.contents l.fn.writer) (g.W.Write.contents l.writer)
    (with_feeds (map command_line (take l.queue-index l.commands)))
