-- How many there are so far.
use Rattle.std.proofs.Common.{◌≡◌, take, nat_lt}
use Rattle.std.specs.List.{count_by}
use Rattle.picture_svg.proofs.layout.lower.Given as goal

abbrev pub invariant-loop-block : goal.invariant-loop-block
invariant-loop-block l = l.count ≡ count_by (λ k. nat_lt k l.lba) (take l.block-index l.blocks)
