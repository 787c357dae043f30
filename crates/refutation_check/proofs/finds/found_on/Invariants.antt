use Rattle.std.proofs.Common.{map, take, ◌≡◌}
use Rattle.std.specs.List.{filter}
use Rattle.refutation_check.specs.Commands.{name_of}
use Rattle.refutation_check.specs.Known.{IsKnown}
use Rattle.refutation_check.specs.SliceEffects.{found_of, is_left_inside}
use Rattle.refutation_check.proofs.finds.found_on.Given as goal

abbrev pub invariant-loop-block : goal.invariant-loop-block
invariant-loop-block l =
    IsKnown l.chosen.known → l.finds.items
    ≡ filter (is_left_inside l.chosen (name_of l.effect))
    (map (λ n. (n, found_of l.chosen.known (name_of l.effect) n)) (take l.block-index l.blocks))
