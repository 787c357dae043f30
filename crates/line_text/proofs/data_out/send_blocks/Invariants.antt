-- What was written, and the text of what is left.
use Rattle.std.proofs.Common.{◌≡◌, ◌%◌, List, ℕ, ◌++◌, length}
use Rattle.std.specs.Io.KnownBytes.{Appends}
use Rattle.line_text.specs.Data.{data_text}
use Rattle.line_text.proofs.DataWriting.{left_text}
use Rattle.line_text.proofs.data_out.send_blocks.Given as goal

abbrev pub invariant-loop-rest : goal.invariant-loop-rest
invariant-loop-rest g l =
    (done : List ℕ) × Appends (g.W.Write.contents l.fn.writer) (g.W.Write.contents l.writer) done
    × (data_text 512 l.bytes ≡ done ++ left_text 512 l.rest) × (length l.rest % 512 ≡ 0)

abbrev pub decreases-loop-rest : goal.decreases-loop-rest
decreases-loop-rest g l = length l.rest
