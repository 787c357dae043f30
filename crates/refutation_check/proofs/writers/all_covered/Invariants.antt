use Rattle.std.proofs.Common.{drop, map, ◌≡◌}
use Rattle.std.specs.List.{list_all, list_any}
use Rattle.refutation.specs.EffectOrders.{comes_before}
use Rattle.refutation_check.specs.Commands.{name_of}
use Rattle.refutation_check.specs.Known.{IsKnown, config_of, options_of, trace_of}
use Rattle.refutation_check.proofs.writers.all_covered.Given as goal

abbrev pub invariant-loop-effect : goal.invariant-loop-effect
invariant-loop-effect l =
    IsKnown l.known
    → list_all
    (λ y. list_any (comes_before (options_of l.known) (config_of l.known) (trace_of l.known) y) (map name_of l.later))
    (map name_of (drop l.effect-index l.effects))
    ≡ list_all
    (λ y. list_any (comes_before (options_of l.known) (config_of l.known) (trace_of l.known) y) (map name_of l.later))
    (map name_of l.effects)
