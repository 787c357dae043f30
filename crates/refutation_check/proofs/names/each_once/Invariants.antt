use Rattle.std.proofs.Common.{drop, map, ◌++◌, ◌≡◌}
use Rattle.refutation.specs.Slices.{each_once}
use Rattle.refutation_check.specs.Commands.{name_of}
use Rattle.refutation_check.proofs.names.each_once.Given as goal

abbrev pub invariant-loop-place : goal.invariant-loop-place
invariant-loop-place l =
    map name_of l.kept.items ++ each_once (map name_of (drop l.place l.effects)) ≡ each_once (map name_of l.effects)
