use Rattle.std.proofs.Common.{List, ap, arith, map, ◌∙◌}
use Rattle.std.proofs.lemmas.List.{take_all}
use Rattle.refutation.specs.EffectOrders.{EffectName, comes_before}
use Rattle.refutation.specs.Slices.{numbers_where}
use Rattle.refutation_check.specs.Commands.{name_of}
use Rattle.refutation_check.specs.Known.{config_of, options_of, trace_of}
use Rattle.refutation_check.specs.declared.order.Effect.{Effect}
use Rattle.refutation_check.proofs.SlicePieces.{numbers_next}
use Rattle.refutation_check.proofs.pieces.behind_of.Goals as goal

pub loop-number-preserved : goal.loop-number-preserved
loop-number-preserved c =
    let x = c.args.chosen.now.known in
    let none : Effect = record { queue = 0; number = 0; unit = 0 } in
    λ k. numbers_next
    (λ m. comes_before (options_of x) (config_of x) (trace_of x) m (name_of c.args.effect.now))
    c.args.chosen.now.names.now c.loop-number.number none c.loop-number.behind.items c.add_behind.new.behind.items
    c.loop-number-test.true (c.loop-number.invariant k) (c.in_ok-add_behind.ensures.value k)

pub returns : goal.returns
returns c =
    let x = c.args.chosen.now.known in
    let test = λ (m : EffectName). comes_before (options_of x) (config_of x) (trace_of x) m (name_of c.args.effect.now)
    in
    record {
      value = λ k.
          c.loop-number.invariant k
          ∙ ap (λ (es : List Effect). numbers_where test 0 (map name_of es))
          (take_all c.loop-number.number c.args.chosen.now.names.now (omega (arith, c.loop-number-test.false)));
    }
