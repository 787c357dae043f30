use Rattle.std.proofs.Common.{map, take, ◌≡◌}
use Rattle.refutation.specs.EffectOrders.{comes_before}
use Rattle.refutation.specs.Slices.{numbers_where}
use Rattle.refutation_check.specs.Commands.{name_of}
use Rattle.refutation_check.specs.Known.{IsKnown, config_of, options_of, trace_of}
use Rattle.refutation_check.proofs.pieces.behind_of.Given as goal

abbrev pub invariant-loop-number : goal.invariant-loop-number
invariant-loop-number l =
    let x = l.chosen.known in
    IsKnown x → l.behind.items
    ≡ numbers_where (λ m. comes_before (options_of x) (config_of x) (trace_of x) m (name_of l.effect)) 0
    (map name_of (take l.number l.chosen.names.now))
