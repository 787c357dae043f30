use Rattle.std.proofs.Common.{Ok, refl, subst, sym}
use Rattle.controller_interface.specs.State.{Serves}
use Rattle.controller_interface.specs.declared.answer.Answer.{Answer}
use Rattle.vandrexu_c.proofs.owned_controller.OwnedController.make.Goals as goal

pub returns-in-Ok-Posted : goal.returns-in-Ok-Posted
returns-in-Ok-Posted c =
    let posted = c.in-Ok-Posted in
    record {
      gives = rw (sym c.self.view_is) (
        Ok (Answer.Posted posted.field-0-0),
        subst (λ a. Serves c.self.inside.core c.args.step (Ok a) c.step.new.self) posted.field-0-is
            posted.ensures.serves,
        refl,
        tt,
      );
    }
