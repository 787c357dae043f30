-- The blocks so far, and those of the parts that are left.
use Rattle.std.proofs.Common.{◌≡◌, ◌==◌, Some, length}
use Rattle.std.specs.List.{slice_split}
use Rattle.line_text.specs.Data.{bytes_of_blocks_in, then_block}
use Rattle.line_text.proofs.data.read_blocks.Given as goal

abbrev pub invariant-loop-end : goal.invariant-loop-end
invariant-loop-end l = then_block (Some l.out.items) (bytes_of_blocks_in 512 (slice_split (λ b. b == 46) l.rest))
    ≡ bytes_of_blocks_in 512 (slice_split (λ b. b == 46) l.word)

abbrev pub decreases-loop-end : goal.decreases-loop-end
decreases-loop-end l = length l.rest
