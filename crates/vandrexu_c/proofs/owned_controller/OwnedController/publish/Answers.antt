use Rattle.std.proofs.Common.{Err, Ok, refl, subst, sym}
use Rattle.controller_interface.specs.declared.answer.Answer.{Answer}
use Rattle.controller_interface.specs.declared.answer.Refused.{Refused}
use Rattle.vandrexu_c.specs.Steps.{GivesAnswer}
use Rattle.vandrexu_c.proofs.owned_controller.OwnedController.publish.Goals as goal
use Rattle.vandrexu_c.proofs.owned_controller.OwnedController.publish.Goals.{in-Err, in-Ok}

pub returns : goal.returns
returns c =
    record {
      gives = rw (sym c.self.view_is) (
        refl,
        elim c.match-publish.branch [
          | in-Ok w ↦ (
            Ok Answer.Published,
            w.in-Ok.ensures.serves,
            subst (GivesAnswer (λ _ _. Unit {0}) (Ok Answer.Published)) (sym w.result-is) tt,
          )
          | in-Err w ↦ (
            Err (Refused.Publish w.in-Err.back.0 w.in-Err.back.1),
            w.in-Err.ensures.serves,
            subst (GivesAnswer (λ _ _. Unit {0}) (Err (Refused.Publish w.in-Err.back.0 w.in-Err.back.1)))
                (sym w.result-is) w.refused_in.ensures,
          )
        ],
      );
    }
