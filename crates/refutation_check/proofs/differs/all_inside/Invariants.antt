use Rattle.std.proofs.Common.{take, true, ◌≡◌}
use Rattle.std.specs.List.{list_all}
use Rattle.refutation_check.specs.Commands.{name_of}
use Rattle.refutation_check.specs.Known.{IsKnown}
use Rattle.refutation_check.specs.SliceEffects.{differs_inside}
use Rattle.refutation_check.proofs.differs.all_inside.Given as goal

abbrev pub invariant-loop-block : goal.invariant-loop-block
invariant-loop-block l =
    IsKnown l.chosen.known
    → list_all (differs_inside l.chosen (name_of l.effect)) (take l.block-index l.blocks) ≡ true
