use Rattle.std.proofs.Common.{Err, Ok, refl, subst, sym}
use Rattle.controller_interface.specs.declared.answer.Answer.{Answer}
use Rattle.controller_interface.specs.declared.answer.Refused.{Refused}
use Rattle.vandrexu_c.specs.Steps.{GivesAnswer, TellsPosted}
use Rattle.vandrexu_c.proofs.owned_controller.OwnedController.post.Goals as goal
use Rattle.vandrexu_c.proofs.owned_controller.OwnedController.post.Goals.{in-Err, in-Ok}

pub returns : goal.returns
returns c =
    record {
      gives = rw (sym c.self.view_is) (
        refl,
        elim c.match-post.branch [
          | in-Ok w ↦ (
            Ok (Answer.Posted w.in-Ok.cqe),
            w.in-Ok.ensures.serves,
            subst (GivesAnswer TellsPosted (Ok (Answer.Posted w.in-Ok.cqe))) (sym w.result-is) refl,
          )
          | in-Err w ↦ (
            Err (Refused.Step w.in-Err.why),
            w.in-Err.ensures.serves,
            subst (GivesAnswer TellsPosted (Err (Refused.Step w.in-Err.why))) (sym w.result-is) w.refused_in.ensures,
          )
        ],
      );
    }
