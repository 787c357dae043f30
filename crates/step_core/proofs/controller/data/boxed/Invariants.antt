use Rattle.std.proofs.Common.{◌≡◌}
use Rattle.block_array.specs.Blocks.{contents_of}
use Rattle.block_exec.specs.Bytes.{first_blocks}
use Rattle.step_core.proofs.controller.data.boxed.Given as goal

abbrev pub invariant-loop-place : goal.invariant-loop-place
invariant-loop-place l = contents_of l.boxes.items ≡ first_blocks l.place l.payload
