-- What contracts say of an engine, its works and its notices.
use Rattle.std.specs.Prelude.{List, [], true, ℕ, ◌≡◌, ◌∷◌}
use Rattle.nvme_model.specs.History.{Past}
use Rattle.nvme_model.specs.Passes.{SharedPast}
use Rattle.nvme_model.specs.declared.config.ConfigNumbers.{ConfigNumbers}
use Rattle.nvme_model.specs.declared.entry.Entry.{Entry}
use Rattle.nvme_model.specs.declared.refusal.Why.{Why}
use Rattle.nvme_model.specs.declared.step.Step.{Step}
use Rattle.nvme_model.specs.declared.submission.Submission.{Submission}
use Rattle.controller_interface.specs.State.{ControllerState}
use Rattle.controller_interface.specs.declared.answer.Answer.{Answer}
use Rattle.controller_interface.specs.declared.answer.Refused.{Refused}
use Rattle.controller_interface.specs.State.{Accepts}
use Rattle.meet_lock.specs.Passes
use Rattle.meet_lock.specs.declared.pass.Declined.{Declined}
use Rattle.meet_lock.specs.declared.pass.Pass.{Pass}
use Rattle.meet_lock.specs.declared.pass.Unmade.{Unmade}
use Rattle.step_core.specs.declared.calls.FetchCall.{FetchCall}
use Rattle.step_core.specs.declared.calls.PublishCall.{PublishCall}
use Rattle.step_core.specs.declared.calls.ReapCall.{ReapCall}
use Rattle.work_queue.specs.Duties.{is_only_fetch}
use Rattle.work_queue.specs.declared.engine.Engine.{Engine}
use Rattle.work_queue.specs.declared.engine.Open.{Open}
use Rattle.work_queue.specs.declared.engine.Open.TheVariants as opening
use Rattle.work_queue.specs.declared.engine.Opened.{Opened}
use Rattle.work_queue.specs.declared.engine.Opened.TheVariants as opened
use Rattle.work_queue.specs.declared.work.Work.{Work}

-- a caller's pass
abbrev pub EnginePass : Type 0
EnginePass = Pass ControllerState

-- the pass is one of this engine
abbrev pub IsPassOfEngine : Engine → EnginePass → Type 0
IsPassOfEngine e p = Passes.IsPassOfLock e.shared p

-- what the controller had when the engine was made
abbrev pub opening_of : Engine → Past
opening_of e = Passes.opening_of (λ core. core.past) e.shared

-- the Work is one of this engine
abbrev pub IsWorkOf : Engine → Work → Type 0
IsWorkOf e w = Passes.IsTicketOf e.shared w.owner

-- a pass of the engine that has seen nothing
pub record IsFreshPass (e : Engine) (c : ConfigNumbers) (p : EnginePass) : Type 0 where
  pub of : IsPassOfEngine e p
  pub config : Passes.config_of p ≡ c
  pub seen : Passes.seen p ≡ []

-- What was told is of a controller that is configured as the pass knows, and whose history is what the pass has seen.
abbrev pub GlancedAt : {T : Type 0} → (ControllerState → T → Type 0) → EnginePass → T → Type 0
GlancedAt tells q t = Passes.Glanced (λ core. core.config) (λ core. core.past) tells q t

-- A controller that is configured as the pass knows, and whose history is what the pass has seen, forgot its entries
-- before this place.
abbrev pub ForgotAt : ℕ → EnginePass → Type 0
ForgotAt place q = Passes.Forgot (λ core. core.config) (λ core. core.past) (λ core. core.forgotten) place q

-- the ticket's entries, the newest first
abbrev pub its : Work → Past
its w = Passes.its w.owner

-- what the Work has seen
abbrev pub work_seen : Work → SharedPast
work_seen w = Passes.ticket_seen w.owner

-- after an accepted Fetch: the Work of the ticket of its entry, which is that ticket's one entry, has seen what the
-- pass has
pub record FetchedAs (eng : Engine) (p q : EnginePass) (n : ℕ) (w : Work) : Type 0 where
  pub by : Passes.Accepted Accepts p q (Step.Fetch n) (Answer.Fetched w.work)
  pub of : IsWorkOf eng w
  pub saw : work_seen w ≡ Passes.seen q
  pub one : its w ≡ by.entry ∷ []
  pub fresh : is_only_fetch w.work.ticket (its w) ≡ true

-- why a Publish isn't made, as it is said of all steps
abbrev pub publish_declined : Unmade PublishCall (Why × List Submission) → Declined
publish_declined (Unmade.Busy c) = Declined.Busy (Step.Publish c.queue c.batch)
publish_declined (Unmade.Refused r) = Declined.Refused (Refused.Publish r.0 r.1)

-- why a Fetch isn't made
abbrev pub fetch_declined : Unmade FetchCall Why → Declined
fetch_declined (Unmade.Busy c) = Declined.Busy (Step.Fetch c.queue)
fetch_declined (Unmade.Refused why) = Declined.Refused (Refused.Step why)

-- why a Reap isn't made
abbrev pub reap_declined : Unmade ReapCall Why → Declined
reap_declined (Unmade.Busy c) = Declined.Busy (Step.Reap c.queue)
reap_declined (Unmade.Refused why) = Declined.Refused (Refused.Step why)

-- the step that an opening asks for
abbrev pub open_step : Open → Step
open_step (opening.Publish q batch) = Step.Publish q batch
open_step (opening.Fetch q) = Step.Fetch q
open_step (opening.Reap q) = Step.Reap q

-- the answer, with the Work of the ticket of this entry, its one entry, that has seen what the pass has
abbrev pub IsOpened : Engine → EnginePass → Entry → Answer → Opened → Type 0
IsOpened eng q e Answer.Published opened.Published = Unit {0}
IsOpened eng q e (Answer.Fetched w) (opened.Fetched x) =
    (x.work ≡ w)
    × IsWorkOf eng x
    × (work_seen x ≡ Passes.seen q)
    × (its x ≡ e ∷ [])
    × (is_only_fetch w.ticket (its x) ≡ true)
IsOpened eng q e (Answer.Reaped cqe payload) (opened.Reaped c p) = (c ≡ cqe) × (p ≡ payload)
IsOpened eng q e _ _ = ⊥

-- after an accepted opening
pub record OpenedAs (eng : Engine) (p q : EnginePass) (o : Open) (r : Opened) : Type 0 where
  pub answer : Answer
  pub by : Passes.Accepted Accepts p q (open_step o) answer
  pub is : IsOpened eng q by.entry answer r

-- the ticket is in flight, and it is the task's turn
abbrev pub IsNoTaskFault : Declined → Type 0
IsNoTaskFault (Declined.Refused (Refused.Step Why.NoTicket)) = ⊥
IsNoTaskFault (Declined.Refused (Refused.Step Why.WrongState)) = ⊥
IsNoTaskFault _ = Unit {0}
