use Rattle.std.proofs.Common.{length, map, ◌≡◌}
use Rattle.std.specs.List.{list_any}
use Rattle.refutation.specs.EffectOrders.{comes_before}
use Rattle.refutation_check.specs.Commands.{name_of}
use Rattle.refutation_check.specs.Known.{IsKnown, config_of, options_of, trace_of}
use Rattle.refutation_check.proofs.writers.is_covered.Given as goal

abbrev pub invariant-loop-last : goal.invariant-loop-last
invariant-loop-last l =
    let before = comes_before (options_of l.known) (config_of l.known) (trace_of l.known) (name_of l.effect) in
    IsKnown l.known → list_any before (map name_of l.rest) ≡ list_any before (map name_of l.later)

abbrev pub decreases-loop-last : goal.decreases-loop-last
decreases-loop-last l = length l.rest
