use Rattle.std.proofs.Common.{Err, Ok, refl, subst, sym}
use Rattle.controller_interface.specs.declared.answer.Answer.{Answer}
use Rattle.controller_interface.specs.declared.answer.Refused.{Refused}
use Rattle.vandrexu_c.specs.Steps.{GivesAnswer, TellsBlocked}
use Rattle.vandrexu_c.proofs.owned_controller.OwnedController.block.Goals as goal
use Rattle.vandrexu_c.proofs.owned_controller.OwnedController.block.Goals.{in-Err, in-Ok}

pub returns : goal.returns
returns c =
    record {
      gives = rw (sym c.self.view_is) (
        refl,
        elim c.match-block.branch [
          | in-Ok w ↦ (
            Ok (Answer.Blocked w.in-Ok.done),
            w.in-Ok.ensures.serves,
            subst (GivesAnswer TellsBlocked (Ok (Answer.Blocked w.in-Ok.done))) (sym w.result-is) w.blocked_in.ensures,
          )
          | in-Err w ↦ (
            Err (Refused.Step w.in-Err.why),
            w.in-Err.ensures.serves,
            subst (GivesAnswer TellsBlocked (Err (Refused.Step w.in-Err.why))) (sym w.result-is) w.refused_in.ensures,
          )
        ],
      );
    }
