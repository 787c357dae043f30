use Rattle.std.proofs.Common.{Err, Ok, refl, subst, sym}
use Rattle.controller_interface.specs.Granted.{granted_answer}
use Rattle.controller_interface.specs.declared.answer.Refused.{Refused}
use Rattle.vandrexu_c.specs.Steps.{GivesAnswer, TellsGranted}
use Rattle.vandrexu_c.proofs.owned_controller.OwnedController.grant.Goals as goal
use Rattle.vandrexu_c.proofs.owned_controller.OwnedController.grant.Goals.{in-Err, in-Ok}

pub returns : goal.returns
returns c =
    record {
      gives = rw (sym c.self.view_is) (
        refl,
        elim c.match-grant.branch [
          | in-Ok w ↦ (
            Ok (granted_answer w.in-Ok.granted),
            w.in-Ok.ensures.serves,
            subst (GivesAnswer TellsGranted (Ok (granted_answer w.in-Ok.granted))) (sym w.result-is)
                w.granted_in.ensures,
          )
          | in-Err w ↦ (
            Err (Refused.Step w.in-Err.why),
            w.in-Err.ensures.serves,
            subst (GivesAnswer TellsGranted (Err (Refused.Step w.in-Err.why))) (sym w.result-is) w.refused_in.ensures,
          )
        ],
      );
    }
