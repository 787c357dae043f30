use Rattle.std.proofs.Common.{map, take, ◌≡◌}
use Rattle.refutation.specs.Slices.{piece_of}
use Rattle.refutation_check.specs.Commands.{name_of}
use Rattle.refutation_check.specs.Known.{IsKnown, config_of, options_of, trace_of}
use Rattle.refutation_check.specs.SliceEffects.{names_of}
use Rattle.refutation_check.proofs.pieces.pieces_of.Given as goal

abbrev pub invariant-loop-effect : goal.invariant-loop-effect
invariant-loop-effect l =
    let x = l.chosen.known in
    IsKnown x → l.pieces.items
    ≡ map (piece_of (options_of x) (config_of x) (trace_of x) l.chosen.blocks.now (names_of l.chosen))
    (map name_of (take l.effect-index l.chosen.names.now))
