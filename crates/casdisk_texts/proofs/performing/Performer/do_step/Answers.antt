use Rattle.std.proofs.Common.{ap, ◌∙◌}
use Rattle.controller_interface.specs.State.{ControllerState}
use Rattle.casdisk_texts.proofs.Stepping.{config_served}
use Rattle.casdisk_texts.proofs.performing.Performer.do_step.Goals as goal

pub returns-clause-same : goal.returns-clause-same
returns-clause-same g c =
    let same = c.tell_answer-told.ensures.same in (
      ap (λ (x : ControllerState). x.config) c.forget.ensures.state ∙ ap (λ (x : ControllerState). x.config) same.0
          ∙ config_served c.args.self.now.core c.step-answer.new.self c.args.step c.step-answer.result
          c.step-answer.ensures.serves,
      same.1,
    )

pub returns-clause-done : goal.returns-clause-done
returns-clause-done g c =
    rw (ap (λ (x : ControllerState). x.past) c.forget.ensures.state)
    (c.tell_answer-told.ensures.done c.args.self.now.core c.args.step c.step-answer.ensures.serves
    c.history.ensures.few)

pub returns-clause-stopped : goal.returns-clause-stopped
returns-clause-stopped g c =
    c.tell_answer-told.ensures.stopped c.args.self.now.core c.args.step c.step-answer.ensures.serves
    c.history.ensures.few

pub returns-clause-seen : goal.returns-clause-seen
returns-clause-seen g c k stands =
    rw (ap (λ (x : ControllerState). x.past) c.forget.ensures.state)
    (c.tell_answer-told.ensures.seen c.args.self.now.core c.args.step c.step-answer.ensures.serves
    c.history.ensures.few k stands)
