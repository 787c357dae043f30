use Rattle.std.proofs.Common.{drop, map, ◌≡◌}
use Rattle.refutation.specs.Slices.{is_named}
use Rattle.refutation_check.specs.Commands.{name_of}
use Rattle.refutation_check.proofs.names.is_named.Given as goal

abbrev pub invariant-loop-name : goal.invariant-loop-name
invariant-loop-name l =
    is_named (map name_of (drop l.name-index l.names)) (name_of l.effect)
    ≡ is_named (map name_of l.names) (name_of l.effect)
