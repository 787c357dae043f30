use Rattle.std.proofs.Common.{ap, cond, length, subst, sym, ◌≤◌}
use Rattle.vandrexu_c.specs.OwnedStates.{OwnedState}
use Rattle.vandrexu_c.proofs.Replayed.{made_again}
use Rattle.vandrexu_c.proofs.owned_controller.OwnedController.make_again.Goals as goal

pub returns-then-has_added : goal.returns-then-has_added
returns-then-has_added g c =
    let few = subst (λ (m : OwnedState). m.core.forgotten ≤ length m.core.past) c.self.view_is c.history.ensures.few in
    record {
      again = made_again c.args.self.now c.make.new.self _ _ _ c.has_added.result 0 c.make.ensures.gives
          c.in_default.is c.step.ensures.value few c.has_added.ensures.value
          (sym (ap (λ b. cond b 0 131) c.if-has_added.true));
    }

pub returns : goal.returns
returns g c =
    let few = subst (λ (m : OwnedState). m.core.forgotten ≤ length m.core.past) c.self.view_is c.history.ensures.few in
    record {
      again = made_again c.args.self.now c.make.new.self _ _ _ c.has_added.result 131 c.make.ensures.gives
          c.in_default.is c.step.ensures.value few c.has_added.ensures.value
          (sym (ap (λ b. cond b 0 131) c.if-has_added.false));
    }
