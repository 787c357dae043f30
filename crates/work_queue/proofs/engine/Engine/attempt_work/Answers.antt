use Rattle.std.proofs.Common.{Err, Ok, ap, subst, sym, ◌∙◌, ◌≡◌}
use Rattle.nvme_model.specs.Passes.{entries}
use Rattle.nvme_model.specs.declared.step.Step.{Step}
use Rattle.ticket_laws.specs.Entries.{of_ticket}
use Rattle.ticket_laws.specs.Tasks.{own_stage}
use Rattle.controller_interface.specs.State.{Accepts, Refuses}
use Rattle.meet_lock.specs.Passes.{Accepted, Declines, Worked, its, seen}
use Rattle.work_queue.specs.Duties.{duty_of, task_step}
use Rattle.work_queue.proofs.Posting.{told_posted}
use Rattle.work_queue.proofs.Works.{after_saw, learned_work, no_fault, staged}
use Rattle.work_queue.proofs.engine.Engine.attempt_work.Goals as goal

pub invariant_of-work : goal.invariant_of-work
invariant_of-work c =
    let e = c.in-Ok.ensures in
    let was = c.args.work.now in
    let owned = e.same.2 ∙ was.owned in
    let step = c.step_of-step.ensures.value ∙ ap (task_step c.args.task) c.ticket.ensures.value in
    record {
      owned = owned;
      staged = c.stage_after-work.ensures.value
          ∙ staged c.args.pass.now c.attempt_work.new.pass was.owner c.attempt_work.new.owner was.work was.queue
          c.args.task c.in-Ok.answer was.stage e.same.0.3 e.knows.0 e.saw was.fetched
          (ap (λ t. of_ticket t (entries (seen c.attempt_work.new.pass))) (sym owned) ∙ e.whole tt)
          (subst (λ (s : Step). Worked Accepts c.args.pass.now c.attempt_work.new.pass was.owner
          c.attempt_work.new.owner s c.in-Ok.answer) step e.accepted) was.staged;
      fetched = after_saw c.attempt_work.new.pass was.owner c.attempt_work.new.owner was.work was.queue
          (Ok c.in-Ok.answer) e.saw e.knows.0 was.fetched;
    }

pub invariant_of-work-in-Err-1 : goal.invariant_of-work-in-Err-1
invariant_of-work-in-Err-1 c =
    let e = c.in-Err.ensures in
    let was = c.args.work.now in
    record {
      owned = e.same.2 ∙ was.owned;
      staged = was.staged ∙ ap (own_stage (duty_of was.work) was.work.ticket) (sym e.declined.1);
      fetched = after_saw c.attempt_work.new.pass was.owner c.attempt_work.new.owner was.work was.queue
          (Err c.in-Err.declined) e.saw e.knows.0 was.fetched;
    }

pub returns-in-Err-clause-in_place : goal.returns-in-Err-clause-in_place
returns-in-Err-clause-in_place c =
    let e = c.in-Err.ensures in
    let was = c.args.work.now in
    let owned = e.same.2 ∙ was.owned in
    let step = c.step_of-step.ensures.value ∙ ap (task_step c.args.task) c.ticket.ensures.value in
    no_fault c.args.pass.now c.attempt_work.new.pass was.owner c.attempt_work.new.owner was.work was.queue c.args.task
    (Err c.in-Err.declined) e.same.0.3 e.knows.0 e.saw was.fetched
    (λ n. ap (λ t. of_ticket t (entries (seen c.attempt_work.new.pass))) (sym owned) ∙ e.whole n) c.requires.allowed
    (subst (λ (s : Step). Declines Refuses c.args.pass.now c.attempt_work.new.pass s c.in-Err.declined
    × (its c.attempt_work.new.owner ≡ its was.owner)) step e.declined)

pub returns-in-Ok-clause-posted : goal.returns-in-Ok-clause-posted
returns-in-Ok-clause-posted c =
    let e = c.in-Ok.ensures in
    let was = c.args.work.now in
    let step = c.step_of-step.ensures.value ∙ ap (task_step c.args.task) c.ticket.ensures.value in
    told_posted c.args.pass.now c.attempt_work.new.pass c.args.task was.work.ticket was.queue c.in-Ok.answer e.same.0.3
    (learned_work c.attempt_work.new.pass was.owner c.attempt_work.new.owner was.work was.queue e.saw e.knows.0
    was.fetched).from
    (subst (λ (s : Step). Accepted Accepts c.args.pass.now c.attempt_work.new.pass s c.in-Ok.answer) step e.accepted.by)
