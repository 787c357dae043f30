use Rattle.std.proofs.Common.{List, Some, [], arith, slice_get, subst, suc, sym, take, zero, ℕ, ◌∙◌, ◌∷◌, ◌≡◌}
use Rattle.block_array.specs.Blocks.{contents_of}
use Rattle.fused_match.specs.Judged.{verdict_by}
use Rattle.nvme_model.specs.Tickets.{fetched_ticket}
use Rattle.nvme_model.specs.declared.submission.Submission.{Submission}
use Rattle.job_table.specs.Tickets.{write_blocks}
use Rattle.controller_interface.specs.State.{ControllerState}
use Rattle.step_core.proofs.Accepted.{ok_unless}
use Rattle.step_core.proofs.Fetched.{IsFetched, ticket_fits, can_take, cids_are, is_above, sound_is, not_full}
use Rattle.step_core.proofs.Fetched.{used_room, work_fits, fetch_kept, fetch_done}
use Rattle.step_core.proofs.controller.Core.fetch_next.Goals as goal

-- the first of those that are taken waits first
first_taken : (n : ℕ) (x : Submission) (xs ys : List Submission) → x ∷ ys ≡ take n xs → slice_get xs 0 ≡ Some x
first_taken zero x xs ys e = absurd cc
first_taken (suc n) x [] ys e = absurd cc
first_taken (suc n) x (z ∷ zs) ys e = cc

pub overflow_add-ticket : goal.overflow_add-ticket
overflow_add-ticket c =
    let a = subst (λ (x : ControllerState). IsFetched x.config x.past c.args.queue c.in_ok-front.front)
    (sym (c.self.view_is ∙ c.take_room.ensures.same))
    c.in_ok-front.ensures.value in
    omega (arith, ticket_fits _ _ _ c.self.invariant.0 _ _ a _ c.keep_room.ensures.past c.in_ok-keep_room.ensures.few)

pub take_commands-first-requires-clause-within : goal.take_commands-first-requires-clause-within
take_commands-first-requires-clause-within c =
    let a = subst (λ (x : ControllerState). IsFetched x.config x.past c.args.queue c.in_ok-front.front)
    (sym (c.self.view_is ∙ c.take_room.ensures.same))
    c.in_ok-front.ensures.value in
    can_take _ _ _ c.self.invariant.0 _ _ a _ _ c.index_mut.ensures.value c.taken.ensures.value

pub put_in_use-requires : goal.put_in_use-requires
put_in_use-requires c =
    let a = subst (λ (x : ControllerState). IsFetched x.config x.past c.args.queue c.in_ok-front.front)
    (sym (c.self.view_is ∙ c.take_room.ensures.same))
    c.in_ok-front.ensures.value in
    record { room = used_room _ _ _ c.self.invariant.0 _ _ a _ c.index_mut-2.ensures.value }

pub new_job-job-requires : goal.new_job-job-requires
new_job-job-requires c =
    let a = subst (λ (x : ControllerState). IsFetched x.config x.past c.args.queue c.in_ok-front.front)
    (sym (c.self.view_is ∙ c.take_room.ensures.same))
    c.in_ok-front.ensures.value in
    record { cids = cids_are _ _ _ c.self.invariant.0 _ _ a; sound = sound_is _ _ _ c.self.invariant.0 _ _ a }

pub insert-requires : goal.insert-requires
insert-requires c =
    let a = subst (λ (x : ControllerState). IsFetched x.config x.past c.args.queue c.in_ok-front.front)
    (sym (c.self.view_is ∙ c.take_room.ensures.same))
    c.in_ok-front.ensures.value in
    record { above = is_above _ _ _ c.self.invariant.0 _ _ a }

pub unwrap-requires : goal.unwrap-requires
unwrap-requires c =
    let a = subst (λ (x : ControllerState). IsFetched x.config x.past c.args.queue c.in_ok-front.front)
    (sym (c.self.view_is ∙ c.take_room.ensures.same))
    c.in_ok-front.ensures.value in
    ok_unless c.insert.result c.insert.ensures.full (λ e full. not_full _ _ _ c.self.invariant.0 _ _ a full)

pub new-requires : goal.new-requires
new-requires c =
    let a = subst (λ (x : ControllerState). IsFetched x.config x.past c.args.queue c.in_ok-front.front)
    (sym (c.self.view_is ∙ c.take_room.ensures.same))
    c.in_ok-front.ensures.value in
    work_fits _ _ _ c.self.invariant.0 _ _ a _ c.units-units.ensures

pub invariant_of-self-2 : goal.invariant_of-self-2
invariant_of-self-2 c =
    let a = subst (λ (x : ControllerState). IsFetched x.config x.past c.args.queue c.in_ok-front.front)
    (sym (c.self.view_is ∙ c.take_room.ensures.same))
    c.in_ok-front.ensures.value in
    let wrote = subst (λ (x : ControllerState). contents_of c.in-Ok.room.write.items
    ≡ write_blocks (fetched_ticket x.past c.args.queue (verdict_by c.in_ok-front.front.judged)))
    (sym (c.self.view_is ∙ c.take_room.ensures.same)) c.in-Ok.ensures.write in (
      fetch_kept _ _ _ c.self.invariant.0 _ _ a _ _ _ _ _ _ _ _ _ _ _ _ _ c.index_mut.ensures.value
          c.taken.ensures.value (first_taken _ _ _ _ c.take_commands-first.ensures.taken)
          c.take_commands-first.ensures.rest
          c.index_mut-2.ensures.value c.put_in_use.ensures.more
          wrote c.in-Ok.ensures.read c.new_job-job.ensures.value (rw c.unwrap.ensures at c.insert.ensures.ok)
          c.verdict.ensures.value
          c.keep_room.ensures.past c.push_reserved.ensures.past,
      omega (arith, c.in_ok-keep_room.ensures.ok, c.push_reserved.ensures.room),
      c.self.invariant.2,
      c.self.invariant.3,
    )

pub returns : goal.returns
returns c =
    let a = subst (λ (x : ControllerState). IsFetched x.config x.past c.args.queue c.in_ok-front.front)
    (sym (c.self.view_is ∙ c.take_room.ensures.same))
    c.in_ok-front.ensures.value in
    record {
      does = fetch_done _ _ _ c.self.invariant.0 _ _ a _ _ _ _ _ _ _ _ _ _ _ (c.self.view_is ∙ c.take_room.ensures.same)
          (c.push_reserved.ensures.forgotten ∙ c.keep_room.ensures.forgotten) c.verdict.ensures.value
          c.keep_room.ensures.past c.push_reserved.ensures.past c.units-units.ensures c.new.ensures
          (record {
            entries = omega (arith, c.keep_room.ensures.kept, c.push_reserved.ensures.room);
            ranges = omega arith;
          });
    }
