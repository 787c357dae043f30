use Rattle.std.proofs.Common.{◌≡◌}
use Rattle.nvme_model.specs.Array.{blocks_from}
use Rattle.refutation_check.proofs.blocks.blocks_from.Given as goal

abbrev pub invariant-loop-place : goal.invariant-loop-place
invariant-loop-place l = l.blocks.items ≡ blocks_from l.slba l.place
