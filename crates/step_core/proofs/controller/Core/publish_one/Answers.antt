use Rattle.std.proofs.Common.{List, ap, arith, get_or, refl, ◌++◌, ◌∙◌}
use Rattle.nvme_model.specs.declared.step.Step.{Step}
use Rattle.nvme_model.specs.declared.submission.Submission.{Submission}
use Rattle.step_core.proofs.Accepted.{accepted, one_more}
use Rattle.step_core.proofs.Publishing.{publish_keeps, publish_room, single}
use Rattle.step_core.proofs.controller.Core.publish_one.Goals as goal

pub push-requires : goal.push-requires
push-requires c =
    let none = accepted _ _ (Step.Publish c.args.queue c.args.batch) _ c.self.view_is refl c.requires.allowed in
    record {
      room = publish_room _ _ _ c.self.invariant.0 c.args.queue c.args.batch none c.index_mut.result.now
          c.index_mut.ensures.value c.requires.one;
    }

pub invariant_of-self-2 : goal.invariant_of-self-2
invariant_of-self-2 c =
    let none = accepted _ _ (Step.Publish c.args.queue c.args.batch) _ c.self.view_is refl c.requires.allowed in
    let more = one_more _ _ _ _ c.keep_room.ensures.past c.push_reserved.ensures.past in
    let first = c.index-as_slice-0.result in
    let copy : Submission = record { entry = first.entry; payload = c.in-Ok.payload } in
    let is = c.index-as_slice-0.is ∙ ap (λ (xs : List Submission). get_or xs 0 first) c.as_slice.ensures in
    let same = c.in-Ok.ensures.same ∙ c.as_slice-2.ensures in
    let batch = single c.args.batch first copy c.requires.one is refl same in
    let ring = ap (λ (xs : List Submission). record c.index_mut.result.now {
      waiting = c.index_mut.result.now.waiting ++ xs;
    }) batch in (
      publish_keeps _ _ _ c.self.invariant.0 c.args.queue c.args.batch none c.index_mut.result.now
          c.index_mut.ensures.value
          _ _ _ (c.new.ensures ∙ c.into_vec.ensures) (c.push.ensures.more ∙ ring) more,
      omega (arith, c.in-Ok-keep_room.ensures.ok, c.push_reserved.ensures.room),
      c.self.invariant.2,
      c.self.invariant.3,
    )
