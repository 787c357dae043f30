use Rattle.std.proofs.Common.{Err, Ok, refl, sym}
use Rattle.controller_interface.specs.declared.answer.Refused.{Refused}
use Rattle.step_core.specs.Answers.{reaped_answer}
use Rattle.vandrexu_c.proofs.owned_controller.OwnedController.reap.Goals as goal

pub returns-in-Ok : goal.returns-in-Ok
returns-in-Ok c = record {
  gives = rw (sym c.self.view_is) (
    (Ok (reaped_answer c.in-Ok.completion), c.in-Ok.ensures.serves, (refl, c.into_vec.ensures)),
    λ n e. cc,
  );
}

pub returns-in-Err : goal.returns-in-Err
returns-in-Err c = record {
  gives = rw (sym c.self.view_is) (
    (Err (Refused.Step c.in-Err.why), c.in-Err.ensures.serves, c.refused_in.ensures),
    λ n e. refl,
  );
}
