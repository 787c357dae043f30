-- A disk's server stays one.
use Rattle.std.proofs.Common.{◌∙◌, refl, true, ℕ, ◌≡◌}
use Rattle.nvme_model.specs.Kept.{ControllerInvariant}
use Rattle.nvme_model.specs.declared.config.ConfigNumbers.{ConfigNumbers}
use Rattle.nvme_model.specs.declared.step.Step.{Step}
use Rattle.controller_interface.specs.State.{Accepts, ControllerState, Refuses}
use Rattle.controller_interface.specs.declared.answer.Answer.{Answer}
use Rattle.meet_lock.specs.Passes.{Declines, IsSame, Knows, Worked, seen}
use Rattle.meet_lock.specs.declared.pass.Declined.{Declined}
use Rattle.meet_lock.specs.declared.seats.TicketSeat.{TicketSeat}
use Rattle.shared_system.proofs.Going.{task_serves}
use Rattle.shared_system.proofs.Servers.{declined, stepped}
use Rattle.shared_system.specs.Servers.{IsServing}
use Rattle.work_queue.specs.Duties.{task_step}
use Rattle.work_queue.specs.Engines.{EnginePass, FetchedAs}
use Rattle.work_queue.specs.declared.engine.Engine.{Engine}
use Rattle.work_queue.specs.declared.task.Task.{Task}
use Rattle.work_queue.specs.declared.work.Work.{Work}
use Rattle.slot_disk.specs.Hosts.{IsServer}

-- over whatever it serves
pub server_on : (eng : Engine) (c : ConfigNumbers) (p q : EnginePass) → IsServer eng c p → IsSame p q
    → (IsServing p → IsServing q) → IsServer eng c q
server_on eng c p q x same serves =
    record {
      of = same.0 ∙ x.of;
      config = same.3 ∙ x.config;
      number_is = same.1 ∙ x.number_is;
      passes = same.2 ∙ x.passes;
      serving = serves x.serving;
    }

-- by a task that was made, and by one that was declined
pub server_worked : (eng : Engine) (c : ConfigNumbers) (p q : EnginePass) (w v : TicketSeat ControllerState) (k : Task)
    (t : ℕ) (a : Answer) → IsServer eng c p → IsSame p q → Knows ControllerInvariant p q
    → Worked Accepts p q w v (task_step k t) a → IsServer eng c q
server_worked eng c p q w v k t a x same knows worked =
    server_on eng c p q x same (stepped p q (task_step k t) a same knows (task_serves k t) worked.by)

pub server_declined : (eng : Engine) (c : ConfigNumbers) (p q : EnginePass) (step : Step) (d : Declined)
    → IsServer eng c p → IsSame p q → Knows ControllerInvariant p q → Declines Refuses p q step d → IsServer eng c q
server_declined eng c p q step d x same knows declines =
    server_on eng c p q x same (declined p q step d same knows declines)

-- by a Fetch
pub server_fetched : (eng other : Engine) (c : ConfigNumbers) (p q : EnginePass) (n : ℕ) (w : Work) → IsServer eng c p
    → IsSame p q → Knows ControllerInvariant p q → FetchedAs other p q n w → IsServer eng c q
server_fetched eng other c p q n w x same knows fetched =
    server_on eng c p q x same (stepped p q (Step.Fetch n) (Answer.Fetched w.work) same knows refl fetched.by)
