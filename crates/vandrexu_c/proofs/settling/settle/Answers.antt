use Rattle.std.proofs.Common.{ap, option_map, sym, ◌∙◌}
use Rattle.vandrexu_c.proofs.Settled.{none_more, one_more}
use Rattle.vandrexu_c.proofs.settling.settle.Goals as goal

pub returns-then-is_err : goal.returns-then-is_err
returns-then-is_err c =
    let some = sym c.step_ready.ensures.step ∙ ap (option_map (λ r. r.0)) c.in-Some.is in
    record {
      settles = none_more _ _ _ _ _ some c.in-Some.answer c.loop-turn.invariant c.in-Some.ensures.serves
          (sym c.is_err.ensures.value ∙ c.if-is_err.true);
    }

pub loop-turn-preserved : goal.loop-turn-preserved
loop-turn-preserved c =
    let some = sym c.step_ready.ensures.step ∙ ap (option_map (λ r. r.0)) c.in-Some.is in
    one_more _ _ _ _ _ some c.in-Some.answer c.loop-turn.invariant c.in-Some.ensures.serves
    (sym c.is_err.ensures.value ∙ c.if-is_err.false)
