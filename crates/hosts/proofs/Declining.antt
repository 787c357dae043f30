-- Why a Fetch isn't made, and a task whose turn it is is declined.
use Rattle.std.proofs.Common.{Bool, [], false, subst, sym, true, ◌∷◌, ◌≡◌, ℕ}
use Rattle.std.specs.Prelude.{unwrap_or}
use Rattle.nvme_model.specs.History.{Past}
use Rattle.nvme_model.specs.Passes.{entries}
use Rattle.nvme_model.specs.Refusals.{refusal}
use Rattle.nvme_model.specs.Tables.{first_row}
use Rattle.nvme_model.specs.declared.config.ConfigNumbers.{ConfigNumbers}
use Rattle.nvme_model.specs.declared.refusal.Why.{Why}
use Rattle.controller_interface.specs.State.{Refuses, refused_as}
use Rattle.controller_interface.specs.declared.answer.Refused.{Refused}
use Rattle.meet_lock.specs.Passes.{Declines, config_of, seen}
use Rattle.meet_lock.specs.declared.pass.Declined.{Declined}
use Rattle.meet_lock.specs.declared.pass.Unmade.{Unmade}
use Rattle.nvme_model.specs.declared.step.Step.{Step}
use Rattle.step_core.specs.declared.calls.FetchCall.{FetchCall}
use Rattle.work_queue.specs.Duties.{task_step}
use Rattle.work_queue.specs.Engines as engine
use Rattle.work_queue.specs.declared.task.Task.{Task}
use Rattle.work_queue.specs.declared.task.Task.TheVariants as task
use Rattle.hosts.specs.Declining.{IsFetchUnmade, IsTaskDeclined}

-- the first of three rows that holds, or want of memory
of_three : (P : Why → Type 0) (a b d : Bool) (u v w : Why) → P u → P v → P w → P Why.NoMemory
    → P (unwrap_or (first_row ((a, u) ∷ (b, v) ∷ (d, w) ∷ [])) Why.NoMemory)
of_three P true b d u v w x y z n = x
of_three P false true d u v w x y z n = y
of_three P false false true u v w x y z n = z
of_three P false false false u v w x y z n = n

of_two : (P : Why → Type 0) (a b : Bool) (u v : Why) → P u → P v → P Why.NoMemory
    → P (unwrap_or (first_row ((a, u) ∷ (b, v) ∷ [])) Why.NoMemory)
of_two P true b u v x y n = x
of_two P false true u v x y n = y
of_two P false false u v x y n = n

abbrev TaskRefused : Why → Type 0
TaskRefused w = engine.IsNoTaskFault (Declined.Refused (Refused.Step w))
    → IsTaskDeclined (Declined.Refused (Refused.Step w))

task_refused : (c : ConfigNumbers) (past : Past) (k : Task) (t : ℕ) (r : Refused) → Refuses c past (task_step k t) r
    → engine.IsNoTaskFault (Declined.Refused r) → IsTaskDeclined (Declined.Refused r)
task_refused c past k t r is =
    subst (λ (x : Refused). engine.IsNoTaskFault (Declined.Refused x) → IsTaskDeclined (Declined.Refused x)) (sym is)
    (by k)
  where
    by : (k : Task) → engine.IsNoTaskFault
        (Declined.Refused (refused_as (task_step k t) (unwrap_or (refusal c past (task_step k t)) Why.NoMemory)))
        → IsTaskDeclined (Declined.Refused
        (refused_as (task_step k t) (unwrap_or (refusal c past (task_step k t)) Why.NoMemory)))
    by task.Grant = of_three TaskRefused _ _ _ Why.NoTicket Why.WrongState Why.Conflict (λ f. f) (λ f. f) (λ f. tt)
        (λ f. tt)
    by task.Block = of_two TaskRefused _ _ Why.NoTicket Why.WrongState (λ f. f) (λ f. f) (λ f. tt)
    by task.Post = of_three TaskRefused _ _ _ Why.NoTicket Why.WrongState Why.CqFull (λ f. f) (λ f. f) (λ f. tt)
        (λ f. tt)

pub task_declined : (p s : engine.EnginePass) (k : Task) (t : ℕ) (d : Declined) → Declines Refuses p s (task_step k t) d
    → engine.IsNoTaskFault d → IsTaskDeclined d
task_declined p s k t (Declined.Busy step) h f = tt
task_declined p s k t (Declined.Refused r) h f = task_refused (config_of p) (entries (seen s)) k t r h.1 f

pub fetch_unmade : (p s : engine.EnginePass) (q : ℕ) (u : Unmade FetchCall Why)
    → Declines Refuses p s (Step.Fetch q) (engine.fetch_declined u) → IsFetchUnmade u
fetch_unmade p s q (Unmade.Busy call) h = tt
fetch_unmade p s q (Unmade.Refused why) h =
    let is = h.1 in
    let why_is : why ≡ unwrap_or (refusal (config_of p) (entries (seen s)) (Step.Fetch q)) Why.NoMemory = cc in
    subst (λ (w : Why). IsFetchUnmade (Unmade.Refused w)) (sym why_is)
    (of_three (λ (w : Why). IsFetchUnmade (Unmade.Refused w)) _ _ _ Why.NoQueue Why.NoEntry Why.JobsFull tt tt tt tt)
