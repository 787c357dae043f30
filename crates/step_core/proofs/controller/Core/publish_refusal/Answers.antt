use Rattle.std.proofs.Common.{◌∙◌, ap}
use Rattle.rings.specs.Submissions.{batch_fault}
use Rattle.step_core.proofs.Publishing.{publish_refused}
use Rattle.step_core.proofs.controller.Core.publish_refusal.Goals as goal

pub returns-in-Some : goal.returns-in-Some
returns-in-Some c = record {
  value = c.refuses.ensures.value ∙ ap (batch_fault c.in-Some.ring.now) c.as_slice.ensures
      ∙ publish_refused _ _ c.args.queue _ _ c.in-Some.ensures.value;
}
