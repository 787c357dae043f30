use Rattle.std.proofs.Common.{take, ◌≡◌}
use Rattle.std.specs.List.{filter}
use Rattle.nvme_model.specs.Verdict.{is_in}
use Rattle.refutation_check.proofs.blocks.only_in.Given as goal

abbrev pub invariant-loop-block : goal.invariant-loop-block
invariant-loop-block l = l.found.items ≡ filter (λ n. is_in n l.others) (take l.block-index l.blocks)
