use Rattle.std.proofs.Common.{◌∙◌, arith}
use Rattle.nvme_model.specs.declared.step.Step.{Step}
use Rattle.step_core.proofs.Accepted.{accepted, ok_unless, one_more}
use Rattle.step_core.proofs.Publishing.{publish_keeps, publish_taken}
use Rattle.step_core.proofs.controller.Core.publish_batch.Goals as goal

pub unwrap-requires : goal.unwrap-requires
unwrap-requires c =
    let step = Step.Publish c.args.queue c.args.batch in
    let none = accepted _ _ step _ c.self.view_is c.publish_refusal.ensures.value c.in_default.is in
    ok_unless c.publish.result c.publish.ensures.refused
    (λ e h. publish_taken _ _ _ c.self.invariant.0 c.args.queue c.args.batch none c.index_mut.result.now
    c.index_mut.ensures.value _ h)

pub invariant_of-self-2 : goal.invariant_of-self-2
invariant_of-self-2 c =
    let step = Step.Publish c.args.queue c.args.batch in
    let none = accepted _ _ step _ c.self.view_is c.publish_refusal.ensures.value c.in_default.is in
    let same = c.new.ensures ∙ c.in-Ok.ensures.same ∙ c.as_slice-2.ensures in
    let more = one_more _ _ _ _ c.keep_room.ensures.past c.push_reserved.ensures.past in (
      publish_keeps _ _ _ c.self.invariant.0 c.args.queue c.args.batch none c.index_mut.result.now
          c.index_mut.ensures.value
          _ _ _ same (rw c.unwrap.ensures at c.publish.ensures.ok) more,
      omega (arith, c.in-Ok-keep_room.ensures.ok, c.push_reserved.ensures.room),
      c.self.invariant.2,
      c.self.invariant.3,
    )
