use Rattle.std.proofs.Common.{drop, map, ◌++◌, ◌≡◌}
use Rattle.refutation_check.specs.Collected.{effects_from}
use Rattle.refutation_check.specs.Commands.{name_of}
use Rattle.refutation_check.proofs.collecting.push_effects.Given as goal

abbrev pub invariant-loop-unit : goal.invariant-loop-unit
invariant-loop-unit l =
    map name_of l.found.items ++ effects_from l.queue l.number l.unit l.block (drop l.unit l.units)
    ≡ map name_of l.initial.found.items ++ effects_from l.queue l.number 0 l.block l.units
