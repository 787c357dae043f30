-- What a caller has seen goes on from what it had.
use Rattle.std.proofs.Common.{◌≡◌, ◌++◌, List, [], ◌∙◌, ap, append_assoc, refl, subst, sym, true, ℕ}
use Rattle.nvme_model.specs.Passes.{IsBeginning, SharedPast}
use Rattle.nvme_model.specs.declared.config.ConfigNumbers.{ConfigNumbers}
use Rattle.nvme_model.specs.declared.step.Step.{Step}
use Rattle.nvme_model.specs.Kept.{ControllerInvariant}
use Rattle.controller_interface.specs.State.{Accepts, Refuses, ControllerState}
use Rattle.controller_interface.specs.declared.answer.Answer.{Answer}
use Rattle.meet_lock.specs.Passes.{Declines, IsSame, Knows, Worked, config_of, seen}
use Rattle.meet_lock.specs.declared.pass.Declined.{Declined}
use Rattle.meet_lock.specs.declared.seats.TicketSeat.{TicketSeat}
use Rattle.shared_system.specs.Servers.{IsServing, is_served}
use Rattle.shared_system.proofs.Servers.{declined, noted, stepped}
use Rattle.work_queue.specs.Duties.{is_only_fetch, task_step}
use Rattle.work_queue.specs.Engines as engine
use Rattle.work_queue.specs.QueuePasses as queue
use Rattle.work_queue.specs.declared.engine.Engine.{Engine}
use Rattle.work_queue.specs.declared.notice.Notice.{Notice}
use Rattle.work_queue.specs.declared.queue.QueuePass.{QueuePass}
use Rattle.work_queue.specs.declared.task.Task.{Task}
use Rattle.work_queue.specs.declared.task.Task.TheVariants as task
use Rattle.work_queue.specs.declared.work.Work.{Work}
use Rattle.shared_system.specs.declared.system.System.{System}
use Rattle.shared_system.specs.declared.system.CallerPasses.{CallerPasses}
use Rattle.shared_system.specs.Callers.{AreNoticesOf, Continues, IsCallerOf}

-- a task serves
pub task_serves : (k : Task) (t : ℕ) → is_served (task_step k t) ≡ true
task_serves task.Grant t = refl
task_serves task.Block t = refl
task_serves task.Post t = refl

begins_far : (xs ys zs : SharedPast) → IsBeginning xs ys → IsBeginning ys zs → IsBeginning xs zs
begins_far xs ys zs a b = (b.0 ++ a.0, append_assoc b.0 a.0 xs ∙ (ap (λ l. b.0 ++ l) a.1 ∙ b.1))

module _ {G : Type 0} where
  pub goes_same : (system : System G) (h : CallerPasses) → IsCallerOf system h → Continues system h h
  goes_same system h of = record { of = of; same = (refl, refl, refl, refl); begins = ([], refl); serves = λ x. x }

  pub goes_on : (system : System G) (h k m : CallerPasses) → Continues system h k → Continues system k m
      → Continues system h m
  goes_on system h k m a b =
      record {
        of = b.of;
        same = (b.same.0 ∙ a.same.0, b.same.1 ∙ a.same.1, b.same.2 ∙ a.same.2, b.same.3 ∙ a.same.3);
        begins = begins_far (seen h.pass) (seen k.pass) (seen m.pass) a.begins b.begins;
        serves = λ x. b.serves (a.serves x);
      }

  goes_step : (system : System G) (h : CallerPasses) (p : engine.EnginePass) → IsCallerOf system h → IsSame h.pass p
      → Knows ControllerInvariant h.pass p
      → (IsServing h.pass → IsServing p)
      → Continues system h (record h { pass = p })
  goes_step system h p of same knows serves =
      record { of = (same.0 ∙ of.0, of.1); same = same; begins = knows.1; serves = serves }

  -- by a Fetch that was made
  pub goes_fetched : (system : System G) (h : CallerPasses) (p : engine.EnginePass) (n : ℕ) (w : Work)
      → IsCallerOf system h
      → IsSame h.pass p → Knows ControllerInvariant h.pass p
      → engine.FetchedAs system.engine h.pass p n w → Continues system h (record h { pass = p })
  goes_fetched system h p n w of same knows x =
      goes_step system h p of same knows
      (stepped h.pass p (Step.Fetch n) (Answer.Fetched w.work) same knows refl x.by)

  -- by a task that was made
  pub goes_worked : (system : System G) (h : CallerPasses) (p : engine.EnginePass) (w v : TicketSeat ControllerState)
      (k : Task) (t : ℕ)
      (a : Answer) → IsCallerOf system h → IsSame h.pass p
      → Knows ControllerInvariant h.pass p → Worked Accepts h.pass p w v (task_step k t) a
      → Continues system h (record h { pass = p })
  goes_worked system h p w v k t a of same knows x =
      goes_step system h p of same knows (stepped h.pass p (task_step k t) a same knows (task_serves k t) x.by)

  -- by a step that was declined
  pub goes_declined : (system : System G) (h : CallerPasses) (p : engine.EnginePass) (step : Step) (d : Declined)
      → IsCallerOf system h
      → IsSame h.pass p → Knows ControllerInvariant h.pass p
      → Declines Refuses h.pass p step d → Continues system h (record h { pass = p })
  goes_declined system h p step d of same knows x =
      goes_step system h p of same knows (declined h.pass p step d same knows x)

  -- by a note
  pub goes_noted : (system : System G) (h : CallerPasses) (p : engine.EnginePass) → IsCallerOf system h
      → IsSame h.pass p
      → seen p ≡ seen h.pass → Continues system h (record h { pass = p })
  goes_noted system h p of same stay =
      record { of = (same.0 ∙ of.0, of.1); same = same; begins = ([], sym stay); serves = noted h.pass p same stay }

  -- by a push or a pop
  pub goes_push : (system : System G) (h : CallerPasses) (q : QueuePass Work) → IsCallerOf system h
      → queue.IsSameQueuePass h.works q
      → Continues system h (record h { works = q })
  goes_push system h q of same =
      record {
        of = (of.0, (same.0 ∙ of.1.0, same.2 ∙ of.1.1));
        same = (refl, refl, refl, refl);
        begins = ([], refl);
        serves = λ x. x;
      }

-- the Work of a Fetch may be pushed
pub fetched_ready : (e : Engine) (p q : engine.EnginePass) (n : ℕ) (w : Work) → engine.FetchedAs e p q n w
    → engine.IsWorkOf e w × (is_only_fetch w.work.ticket (engine.its w) ≡ true)
fetched_ready e p q n w h = (h.of, h.fresh)

module _ {G : Type 0} where
  -- the passes of the queues of notices stay those of the same controller's
  pub notices_on : (system : System G) (h k : CallerPasses) (ps : List (QueuePass Notice)) → Continues system h k
      → AreNoticesOf system (config_of h.pass).cqs ps
      → AreNoticesOf system (config_of k.pass).cqs ps
  notices_on system h k ps a x = subst (λ (c : ConfigNumbers). AreNoticesOf system c.cqs ps) (sym a.same.3) x
