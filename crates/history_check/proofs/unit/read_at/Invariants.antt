use Rattle.std.proofs.Common.{◌≡◌}
use Rattle.std.specs.List.{flat_map}
use Rattle.nvme_model.specs.Array.{blocks_from}
use Rattle.history_check.specs.Contents.{contents_in}
use Rattle.history_check.proofs.unit.read_at.Given as goal

abbrev pub invariant-loop-place : goal.invariant-loop-place
invariant-loop-place l = l.bytes.items ≡ flat_map (contents_in l.volume) (blocks_from l.range.slba l.place)
