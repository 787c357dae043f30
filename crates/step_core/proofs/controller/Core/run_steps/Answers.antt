use Rattle.std.proofs.Common.{◌≡◌, ◌++◌, ◌∷◌, [], ap, sym, ◌∙◌, append_assoc, arith, refl}
use mathlib.Core.List.{reverse}
use Rattle.std.proofs.lemmas.List.{append-nil, reverse-reverse}
use Rattle.step_core.proofs.Whole.{RunsOnto-push, reverse_push}
use Rattle.step_core.proofs.controller.Core.run_steps.Goals as goal

pub loop-step-preserved : goal.loop-step-preserved
loop-step-preserved c =
    let tried = c.loop-step.invariant.tried in
    let left : reverse c.loop-step.rest.items ≡ c.in-Some.step ∷ reverse c.pop.new.self.items =
    ap reverse c.in-Some.ensures.items ∙ reverse_push c.pop.new.self.items c.in-Some.step in
    record {
      room = omega (
        arith,
        c.loop-step.invariant.room,
        c.in-Some.ensures.len,
        c.in-Some.ensures.cases,
        c.push_reserved.ensures.len,
        c.push_reserved.ensures.capacity,
      );
      tried = (
        tried.0 ++ c.in-Some.step ∷ [],
        append_assoc tried.0 (c.in-Some.step ∷ []) (reverse c.pop.new.self.items) ∙ ap (λ x. tried.0 ++ x) (sym left)
            ∙ tried.1,
        RunsOnto-push _ _ _ tried.0 _ _ _ c.in-Some.step _ tried.2 c.step-answer.ensures.serves
            c.push_reserved.ensures.items,
      );
    }

pub loop-step-init : goal.loop-step-init
loop-step-init c =
    record {
      room = omega (
        arith,
        c.reserve.ensures.ok,
        c.in_default.ensures.ok,
        c.reserve.ensures.len,
        c.reverse.ensures.len,
        c.len.ensures,
      );
      tried = (
        [],
        ap reverse c.reverse.ensures.items ∙ reverse-reverse c.args.steps.items,
        ([], c.reserve.ensures.items ∙ sym (append-nil c.args.out.now.items), refl),
      );
    }
