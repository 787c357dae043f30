use Rattle.std.proofs.Common.{List, ap, drop, false, map, sym, true, ◌++◌, ◌+◌, ◌∙◌}
use Rattle.refutation.specs.Slices.{each_once}
use Rattle.refutation_check.specs.Commands.{name_of}
use Rattle.refutation_check.specs.declared.order.Effect.{Effect}
use Rattle.refutation_check.proofs.Named.{once_step}
use Rattle.refutation_check.proofs.names.each_once.Goals as goal

pub loop-place-preserved-then-is_named : goal.loop-place-preserved-then-is_named
loop-place-preserved-then-is_named c =
    once_step c.args.effects.now c.loop-place.kept.items c.loop-place.place _ true c.loop-place-test.true
    c.if-is_named.ensures.value
    ∙ c.loop-place.invariant

pub loop-place-preserved : goal.loop-place-preserved
loop-place-preserved c =
    ap (λ (kept : List Effect). map name_of kept
    ++ each_once (map name_of (drop (c.loop-place.place + 1) c.args.effects.now))) c.in_ok-push.ensures.items
    ∙ once_step c.args.effects.now c.loop-place.kept.items c.loop-place.place _ false c.loop-place-test.true
    (sym c.if-is_named.false ∙ c.is_named.ensures.value)
    ∙ c.loop-place.invariant
