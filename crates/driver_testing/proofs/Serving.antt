-- A server's pass goes on to serve.
use Rattle.std.proofs.Common.{Err, Ok, Result, refl, ℕ, ◌∙◌, ◌≡◌}
use Rattle.std.specs.Prelude.{IfErr, IfOk}
use Rattle.nvme_model.specs.History.{Past}
use Rattle.nvme_model.specs.Kept.{ControllerInvariant}
use Rattle.nvme_model.specs.declared.step.Step.{Step}
use Rattle.controller_interface.specs.State.{Accepts, Refuses}
use Rattle.controller_interface.specs.declared.answer.Answer.{Answer}
use Rattle.meet_lock.specs.Passes.{Declines, IsSame, Knows, Worked}
use Rattle.meet_lock.specs.declared.pass.Declined.{Declined}
use Rattle.meet_lock.specs.declared.pass.Unmade.{Unmade}
use Rattle.nvme_model.specs.declared.refusal.Why.{Why}
use Rattle.step_core.specs.declared.calls.FetchCall.{FetchCall}
use Rattle.meet_lock.specs.declared.seats.TicketSeat.{TicketSeat}
use Rattle.controller_interface.specs.State.{ControllerState}
use Rattle.work_queue.specs.Duties.{task_step}
use Rattle.work_queue.specs.Engines.{EnginePass, FetchedAs, fetch_declined}
use Rattle.work_queue.specs.declared.engine.Engine.{Engine}
use Rattle.work_queue.specs.declared.task.Task.{Task}
use Rattle.work_queue.specs.declared.work.Work.{Work}
use Rattle.driver_testing.specs.Hosts.{ServesOn}
use Rattle.shared_system.specs.declared.plain.PlainCaller.{PlainCaller}
use Rattle.shared_system.specs.Servers.{IsServing}
use Rattle.shared_system.proofs.Servers.{declined, stepped}
use Rattle.shared_system.proofs.Going.{task_serves}

-- after a Fetch, whether it was made or not
pub fetched_serves : (eng : Engine) (p q : EnginePass) (queue : ℕ) (r : Result Work (Unmade FetchCall Why))
    → IsSame p q → Knows ControllerInvariant p q → IfOk r (FetchedAs eng p q queue)
    → IfErr r (λ u. Declines Refuses p q (Step.Fetch queue) (fetch_declined u))
    → IsServing p → IsServing q
fetched_serves eng p q queue (Ok w) same k ok err x =
    stepped p q (Step.Fetch queue) (Answer.Fetched w.work) same k refl ok.by x
fetched_serves eng p q queue (Err u) same k ok err x =
    declined p q (Step.Fetch queue) (fetch_declined u) same k err x

-- and after a task
pub worked_serves : (p q : EnginePass) (w v : TicketSeat ControllerState) (k : Task) (t : ℕ) (its : Past) (was : Past)
    (r : Result Answer Declined) → IsSame p q → Knows ControllerInvariant p q
    → IfOk r (Worked Accepts p q w v (task_step k t))
    → IfErr r (λ d. Declines Refuses p q (task_step k t) d × (its ≡ was)) → IsServing p → IsServing q
worked_serves p q w v k t its was (Ok a) same knows ok err x =
    stepped p q (task_step k t) a same knows (task_serves k t) ok.by x
worked_serves p q w v k t its was (Err d) same knows ok err x = declined p q (task_step k t) d same knows err.0 x

-- first one, then the other
pub serves_through : (s m t : PlainCaller) → ServesOn s m → ServesOn m t → ServesOn s t
serves_through s m t x y = ((y.0.0 ∙ x.0.0, y.0.1 ∙ x.0.1, y.0.2 ∙ x.0.2, y.0.3 ∙ x.0.3), λ h. y.1 (x.1 h))
