-- What was written.
use Rattle.std.proofs.Common.{map, take}
use Rattle.std.specs.Io.KnownBytes.{Appends}
use Rattle.line_text.specs.Lines.{with_feeds}
use Rattle.refutation.specs.Texts.{block_line}
use Rattle.refutation.proofs.writing.write_blocks.Given as goal

abbrev pub invariant-loop-block : goal.invariant-loop-block
invariant-loop-block g l =
    Appends (g.W.Write.contents l.fn.writer) (g.W.Write.contents l.writer)
    (with_feeds (map block_line (take l.block-index l.blocks)))
