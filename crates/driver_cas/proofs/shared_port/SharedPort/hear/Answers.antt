use Rattle.std.proofs.Common.{ap, refl, ◌∙◌}
use Rattle.driver_cas.specs.Listening.{one_more}
use Rattle.driver_cas.proofs.Listening.{saw_more}
use Rattle.driver_cas.proofs.shared_port.SharedPort.hear.Goals as goal

pub returns-then-queue-self-clause-saw : goal.returns-then-queue-self-clause-saw
returns-then-queue-self-clause-saw g c =
    saw_more c.args.self.now _ refl (λ h. c.count_one-self.ensures ∙ ap one_more h) c.learn_notice.ensures.on

pub returns-clause-saw : goal.returns-clause-saw
returns-clause-saw g c = saw_more c.args.self.now _ refl (λ h. h) c.learn_notice.ensures.on
