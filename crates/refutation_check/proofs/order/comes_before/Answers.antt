use Rattle.std.proofs.Common.{false, refl, sym, true, ◌∙◌}
use Rattle.std.proofs.lemmas.Result.{IfOk-weaker}
use Rattle.refutation.specs.Told.{is_sure}
use Rattle.refutation_check.specs.Commands.{name_of}
use Rattle.refutation_check.specs.Known.{config_of, options_of, trace_of}
use Rattle.refutation_check.proofs.Orders.{by_tests}
use Rattle.refutation_check.proofs.order.comes_before.Goals as goal

pub returns-then-not-is_answered_before : goal.returns-then-not-is_answered_before
returns-then-not-is_answered_before c =
    let known = c.args.known.now in
    let a = name_of c.args.first.now in
    record {
      value = λ k. by_tests (options_of known) (config_of known) (trace_of known) a (name_of c.args.then.now)
          false false
          (is_sure (config_of known) (trace_of known) a.queue a.number a.unit)
          (sym c.if-is_earlier_unit.false ∙ c.is_earlier_unit.ensures.value)
          (sym c.if-not-is_answered_before.true ∙ c.is_answered_before.ensures.value k) refl;
    }

pub returns : goal.returns
returns c =
    let known = c.args.known.now in
    let a = name_of c.args.first.now in
    record {
      value = λ k. IfOk-weaker c.is_sure.result _ _ (λ b e. by_tests (options_of known) (config_of known)
          (trace_of known)
          a (name_of c.args.then.now) false true b
          (sym c.if-is_earlier_unit.false ∙ c.is_earlier_unit.ensures.value)
          (sym c.if-not-is_answered_before.false ∙ c.is_answered_before.ensures.value k) e)
          (c.is_sure.ensures.value k.answers);
    }
