use Rattle.std.proofs.Common.{◌∙◌, arith}
use Rattle.nvme_model.specs.declared.step.Step.{Step}
use Rattle.step_core.proofs.Accepted.{accepted, does_accepted, ok_unless, one_more}
use Rattle.step_core.proofs.Reaping.{reap_adds, reap_answers, reap_keeps, reap_waiting}
use Rattle.step_core.proofs.controller.Core.reap_next.Goals as goal

pub unwrap-completion-requires : goal.unwrap-completion-requires
unwrap-completion-requires c =
    let none = accepted _ _ (Step.Reap c.args.queue) _ c.self.view_is c.reap_refusal.ensures.value c.in_default.is in
    ok_unless c.reap.result c.reap.ensures.err
    (λ e h. reap_waiting _ _ _ c.self.invariant.0 c.args.queue none c.index_mut.result.now c.index_mut.ensures.value
    h.1)

pub invariant_of-self-2 : goal.invariant_of-self-2
invariant_of-self-2 c =
    let none = accepted _ _ (Step.Reap c.args.queue) _ c.self.view_is c.reap_refusal.ensures.value c.in_default.is in
    let more = one_more _ _ _ _ c.take_room.ensures.past c.push_reserved.ensures.past in (
      reap_keeps _ _ _ c.self.invariant.0 c.args.queue none c.index_mut.result.now c.index_mut.ensures.value
          c.unwrap-completion.result (rw c.unwrap-completion.ensures at c.reap.ensures.ok) _ _
          (rw c.unwrap-completion.ensures at c.reap.ensures.rest) more,
      omega (arith, c.in_ok-take_room.ensures.ok.1, c.push_reserved.ensures.room),
      omega (arith, c.in_ok-take_room.ensures.ok.0, c.self.invariant.2),
      omega (arith, c.in_ok-take_room.ensures.ok.0, c.self.invariant.3),
    )

pub returns : goal.returns
returns c =
    let none = accepted _ _ (Step.Reap c.args.queue) _ c.self.view_is c.reap_refusal.ensures.value c.in_default.is in
    let ring = c.index_mut.result.now in
    let adds = reap_adds _ _ _ c.self.invariant.0 c.args.queue none ring c.index_mut.ensures.value
    c.unwrap-completion.result (rw c.unwrap-completion.ensures at c.reap.ensures.ok) in
    let answers = reap_answers _ _ _ c.self.invariant.0 c.args.queue none ring c.index_mut.ensures.value
    c.unwrap-completion.result (rw c.unwrap-completion.ensures at c.reap.ensures.ok) in
    let more = one_more _ _ _ _ c.take_room.ensures.past c.push_reserved.ensures.past in
    record {
      does = does_accepted _ _ (Step.Reap c.args.queue) _ _ _ _ _ _ c.self.view_is none adds answers more
          (c.push_reserved.ensures.forgotten ∙ c.take_room.ensures.forgotten) c.in_ok-take_room.ensures.ok.0
          (record {
            entries = omega (arith, c.take_room.ensures.kept, c.push_reserved.ensures.room);
            ranges = omega arith;
          });
    }
