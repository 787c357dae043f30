use Rattle.std.proofs.Common.{◌≡◌, ◌++◌, arith, ap, false, inr, length, refl, subst, sym, true, ◌∙◌}
use Rattle.nvme_model.specs.declared.step.Step.{Step}
use Rattle.nvme_model.proofs.Cut.{clash}
use Rattle.step_core.specs.Found.{IsNextStep}
use Rattle.step_core.specs.declared.controller.next.ReadyStep.{ReadyStep}
use Rattle.controller_interface.specs.State.{ControllerState, answer_of}
use Rattle.step_core.proofs.Accepted.{does_accepted, does_wanting, ok_unless, one_more}
use Rattle.step_core.proofs.PostKeeps.{from_place, from_there, left, owes, place_there, not_full, post_entry_is}
use Rattle.step_core.proofs.PostKeeps.{post_keeps, reads, taken_is, there, uses}
use Rattle.step_core.proofs.controller.Core.make_post.Goals as goal

pub returns-in_default : goal.returns-in_default
returns-in_default c =
    let post = subst (λ (x : ControllerState). IsNextStep x.config x.past (ReadyStep.Post c.args.due))
    (sym c.self.view_is)
    c.requires.due in
    record {
      does = does_wanting _ _ (Step.Post c.args.due.ticket) c.self.view_is post.0
          (λ _. inr (reads _ _ _ c.self.invariant.0 c.args.due post
          (λ e. absurd (let both : false ≡ true = c.in_default.ensures.succeeds e in cc))));
    }

pub take_due-payload-requires-clause-flies : goal.take_due-payload-requires-clause-flies
take_due-payload-requires-clause-flies c =
    let post = subst (λ (x : ControllerState). IsNextStep x.config x.past (ReadyStep.Post c.args.due))
    (sym c.self.view_is)
    c.requires.due in
    there _ _ _ c.self.invariant.0 c.args.due post

pub take_due-payload-requires-clause-owes : goal.take_due-payload-requires-clause-owes
take_due-payload-requires-clause-owes c =
    let post = subst (λ (x : ControllerState). IsNextStep x.config x.past (ReadyStep.Post c.args.due))
    (sym c.self.view_is)
    c.requires.due in
    owes _ _ _ c.self.invariant.0 c.args.due post

pub overflow_sub-due : goal.overflow_sub-due
overflow_sub-due c =
    let post = subst (λ (x : ControllerState). IsNextStep x.config x.past (ReadyStep.Post c.args.due))
    (sym c.self.view_is)
    c.requires.due in
    (from_there _ _ _ c.self.invariant.0 c.args.due post).0

pub index_mut-requires : goal.index_mut-requires
index_mut-requires c =
    let post = subst (λ (x : ControllerState). IsNextStep x.config x.past (ReadyStep.Post c.args.due))
    (sym c.self.view_is)
    c.requires.due in
    omega (arith, from_place _ _ _ c.self.invariant.0 c.args.due post)

pub index_mut-requires-2 : goal.index_mut-requires-2
index_mut-requires-2 c =
    let post = subst (λ (x : ControllerState). IsNextStep x.config x.past (ReadyStep.Post c.args.due))
    (sym c.self.view_is)
    c.requires.due in
    omega (arith, place_there _ _ _ c.self.invariant.0 c.args.due post)

pub unwrap-requires : goal.unwrap-requires
unwrap-requires c =
    let post = subst (λ (x : ControllerState). IsNextStep x.config x.past (ReadyStep.Post c.args.due))
    (sym c.self.view_is)
    c.requires.due in
    let taken = taken_is _ _ _ c.self.invariant.0 c.args.due post c.take_due-payload.result
    c.take_due-payload.ensures.payload in
    let count = ap length (c.as_slice.ensures ∙ taken) in
    c.extend_from_slice.ensures.succeeds
    (omega (arith, c.in-Ok.ensures.len, c.in-Ok.ensures.capacity, count, post.1.bytes))

pub unwrap-requires-2 : goal.unwrap-requires-2
unwrap-requires-2 c =
    let post = subst (λ (x : ControllerState). IsNextStep x.config x.past (ReadyStep.Post c.args.due))
    (sym c.self.view_is)
    c.requires.due in
    ok_unless c.post.result c.post.ensures.full
    (λ e h. clash _ h (not_full _ _ _ c.self.invariant.0 c.args.due post c.index_mut-2.result.now
    c.index_mut-2.ensures.value))

pub invariant_of-self-2 : goal.invariant_of-self-2
invariant_of-self-2 c =
    let post = subst (λ (x : ControllerState). IsNextStep x.config x.past (ReadyStep.Post c.args.due))
    (sym c.self.view_is)
    c.requires.due in
    let taken = taken_is _ _ _ c.self.invariant.0 c.args.due post c.take_due-payload.result
    c.take_due-payload.ensures.payload in
    let copied : c.extend_from_slice.new.self.items ≡ c.take_due-payload.result =
    (rw c.unwrap.ensures at c.extend_from_slice.ensures.items)
    ∙ ap (λ xs. xs ++ c.as_slice.result.now) c.in-Ok.ensures.items ∙ c.as_slice.ensures in
    let jobs =
    left _ _ _ c.self.invariant.0 c.args.due post _ c.take_due-payload.ensures.limit c.take_due-payload.ensures.last
    c.take_due-payload.ensures.more in
    let more = one_more _ _ _ _ c.keep_room.ensures.past c.push_reserved.ensures.past in (
      post_keeps _ _ _ c.self.invariant.0 c.args.due post c.index_mut-2.result.now _ c.index_mut.result.now
          c.remove.new.self _ _ _ _ c.index_mut-2.ensures.value c.index_mut.ensures.value
          (c.remove.ensures.one (uses _ _ _ c.self.invariant.0 c.args.due post c.index_mut.result.now
          c.index_mut.ensures.value)) c.remove.ensures.room (c.new.ensures ∙ copied ∙ taken)
          (sym (c.new.ensures ∙ copied)) jobs
          (rw c.unwrap-2.ensures at c.post.ensures.ok) more,
      omega (arith, c.in_ok-keep_room.ensures.ok, c.push_reserved.ensures.room),
      c.self.invariant.2,
      c.self.invariant.3,
    )

pub returns : goal.returns
returns c =
    let post = subst (λ (x : ControllerState). IsNextStep x.config x.past (ReadyStep.Post c.args.due))
    (sym c.self.view_is)
    c.requires.due in
    let taken = taken_is _ _ _ c.self.invariant.0 c.args.due post c.take_due-payload.result
    c.take_due-payload.ensures.payload in
    let copied : c.extend_from_slice.new.self.items ≡ c.take_due-payload.result =
    (rw c.unwrap.ensures at c.extend_from_slice.ensures.items)
    ∙ ap (λ xs. xs ++ c.as_slice.result.now) c.in-Ok.ensures.items ∙ c.as_slice.ensures in
    let more = one_more _ _ _ _ c.keep_room.ensures.past c.push_reserved.ensures.past in
    let adds = post_entry_is _ _ _ c.self.invariant.0 c.args.due post _ (c.new.ensures ∙ copied ∙ taken) in
    record {
      does = does_accepted _ _ (Step.Post c.args.due.ticket) _ _ _ _ _ _ c.self.view_is post.0 adds
          (ap (answer_of c.self.inside.config c.self.inside.history.past) adds) more
          (c.push_reserved.ensures.forgotten ∙ c.keep_room.ensures.forgotten) refl
          (record {
            entries = omega (arith, c.keep_room.ensures.kept, c.push_reserved.ensures.room);
            ranges = omega arith;
          });
    }
