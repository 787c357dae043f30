use Rattle.std.proofs.Common.{Err, Ok, refl, subst, sym}
use Rattle.controller_interface.specs.declared.answer.Answer.{Answer}
use Rattle.controller_interface.specs.declared.answer.Refused.{Refused}
use Rattle.vandrexu_c.specs.Steps.{GivesAnswer, TellsFetched}
use Rattle.vandrexu_c.proofs.owned_controller.OwnedController.fetch.Goals as goal
use Rattle.vandrexu_c.proofs.owned_controller.OwnedController.fetch.Goals.{in-Err, in-Ok}

pub returns : goal.returns
returns c =
    record {
      gives = rw (sym c.self.view_is) (
        refl,
        elim c.match-fetch.branch [
          | in-Ok w ↦ (
            Ok (Answer.Fetched w.in-Ok.work),
            w.in-Ok.ensures.serves,
            subst (GivesAnswer TellsFetched (Ok (Answer.Fetched w.in-Ok.work))) (sym w.result-is) w.work_in.ensures,
          )
          | in-Err w ↦ (
            Err (Refused.Step w.in-Err.why),
            w.in-Err.ensures.serves,
            subst (GivesAnswer TellsFetched (Err (Refused.Step w.in-Err.why))) (sym w.result-is) w.refused_in.ensures,
          )
        ],
      );
    }
