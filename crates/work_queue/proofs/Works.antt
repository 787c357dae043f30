-- A Work stays what it is, and its tasks are in their place.
use Rattle.std.proofs.Common.{Err, IfErr, IfSome, None, Ok, Option, Result, Some, ap, arith, subst, sym, true, ℕ, ◌++◌}
use Rattle.std.proofs.Common.{◌∙◌, ◌≡◌, ◌∷◌, unwrap_or, false, Bool, ◌||◌, [], refl}
use Rattle.std.specs.List.{list_any}
use Rattle.std.proofs.lemmas.List.{map-append}
use Rattle.nvme_model.specs.History.{Past}
use Rattle.nvme_model.specs.Legal.{IsLegal}
use Rattle.nvme_model.specs.Passes.{IsBeginning, SharedPast, entries}
use Rattle.nvme_model.specs.Refusals.{refusal}
use Rattle.nvme_model.specs.Tickets.{Ticket}
use Rattle.nvme_model.specs.declared.config.ConfigNumbers.{ConfigNumbers}
use Rattle.nvme_model.specs.declared.refusal.Why.{Why}
use Rattle.nvme_model.specs.declared.step.Step.{Step}
use Rattle.nvme_model.specs.Kept.{ControllerInvariant}
use Rattle.controller_interface.specs.State.{ControllerState, refused_as}
use Rattle.controller_interface.specs.Works.{TicketWork}
use Rattle.controller_interface.specs.declared.answer.Answer.{Answer}
use Rattle.controller_interface.specs.declared.answer.Refused.{Refused}
use Rattle.ticket_laws.specs.Entries.{of_ticket}
use Rattle.ticket_laws.specs.Tasks.{Duty, IsInPlace, duty_at, own_stage, task_fault}
use Rattle.ticket_laws.specs.declared.stage.DutyStage.{DutyStage}
use Rattle.ticket_laws.proofs.Allowed.{block_in_place, grant_in_place, post_in_place}
use Rattle.ticket_laws.proofs.Later.{duty_later, ticket_later, tickets_later}
use Rattle.controller_interface.specs.State.{Accepts, Refuses}
use Rattle.meet_lock.specs.Passes.{Declines, IsNotBusy, Learned, Saw, Worked, config_of, its, seen, ticket_config}
use Rattle.meet_lock.specs.Passes.{ticket_seen}
use Rattle.meet_lock.specs.declared.pass.Declined.{Declined}
use Rattle.meet_lock.specs.declared.pass.Pass.{Pass}
use Rattle.meet_lock.specs.declared.seats.TicketSeat.{TicketSeat}
use Rattle.work_queue.specs.Duties.{IsWorkAt, duty_of, is_fetch_of, task_step}
use Rattle.work_queue.specs.Engines.{IsNoTaskFault}
use Rattle.work_queue.specs.Stages.{answer_stage, next_task}
use Rattle.work_queue.proofs.Staging.{next_allowed, stage_after}
use Rattle.work_queue.specs.declared.task.Task.{Task}
use Rattle.work_queue.specs.declared.task.Task.TheVariants as task

stands_later : (t : ℕ) (later past : Past) → list_any (is_fetch_of t) past ≡ true
    → list_any (is_fetch_of t) (later ++ past) ≡ true
stands_later t [] past h = h
stands_later t (e ∷ later) past h =
    either (is_fetch_of t e) (list_any (is_fetch_of t) (later ++ past)) (stands_later t later past h)
  where
    either : (a b : Bool) → b ≡ true → (a || b) ≡ true
    either true b h = refl
    either false b h = h

-- what holds of a Work in a history holds of it later
pub carry : (c : ConfigNumbers) (later past : Past) (x : TicketWork) (n : ℕ) → IsLegal c (later ++ past)
    → IsWorkAt c past x n → IsWorkAt c (later ++ past) x n
carry c later past x n h w =
    let more = tickets_later later past in
    let known = w.known in
    record {
      some = w.some;
      known = omega (arith, more, known);
      stands = stands_later x.ticket later past w.stands;
      duty = w.duty ∙ sym (duty_later c later past x.ticket h w.known);
      from = ap (λ (t : Ticket). t.queue) (ticket_later c later past x.ticket h w.known) ∙ w.from;
      legal = h;
    }

pub carried : (c : ConfigNumbers) (old new : SharedPast) (x : TicketWork) (n : ℕ) → IsBeginning old new
    → IsLegal c (entries new) → IsWorkAt c (entries old) x n → IsWorkAt c (entries new) x n
carried c old new x n b h w =
    let same : entries b.0 ++ entries old ≡ entries new = sym (map-append _ b.0 old) ∙ ap entries b.1 in
    subst (λ past. IsWorkAt c past x n) same
    (carry c (entries b.0) (entries old) x n (subst (λ past. IsLegal c past) (sym same) h) w)

-- and of it after it was stepped
pub learned_work : (q : Pass ControllerState) (w v : TicketSeat ControllerState) (x : TicketWork) (n : ℕ)
    → Learned q w v
    → ControllerInvariant (config_of q) (entries (seen q)) → IsWorkAt (ticket_config w) (entries (ticket_seen w)) x n
    → IsWorkAt (config_of q) (entries (seen q)) x n
learned_work q w v x n l k at =
    carried (config_of q) (ticket_seen w) (seen q) x n l.0 k.legal
    (subst (λ c. IsWorkAt c (entries (ticket_seen w)) x n) l.2 at)

moved_work : (q : Pass ControllerState) (w v : TicketSeat ControllerState) (x : TicketWork) (n : ℕ) → Learned q w v
    → ControllerInvariant (config_of q) (entries (seen q)) → IsWorkAt (ticket_config w) (entries (ticket_seen w)) x n
    → IsWorkAt (ticket_config v) (entries (ticket_seen v)) x n
moved_work q w v x n l k at =
    subst (λ (z : ConfigNumbers × SharedPast). IsWorkAt z.0 (entries z.1) x n) (λ i. (sym l.3 i, sym l.1 i))
    (learned_work q w v x n l k at)

pub after_saw : (q : Pass ControllerState) (w v : TicketSeat ControllerState) (x : TicketWork) (n : ℕ)
    (r : Result Answer Declined)
    → Saw q w v r → ControllerInvariant (config_of q) (entries (seen q))
    → IsWorkAt (ticket_config w) (entries (ticket_seen w)) x n
    → IsWorkAt (ticket_config v) (entries (ticket_seen v)) x n
after_saw q w v x n (Ok a) s k at = moved_work q w v x n s k at
after_saw q w v x n (Err (Declined.Busy step)) s k at =
    subst (λ (z : ConfigNumbers × SharedPast). IsWorkAt z.0 (entries z.1) x n) (λ i. (sym s.1 i, sym s.0 i)) at
after_saw q w v x n (Err (Declined.Refused r)) s k at = moved_work q w v x n s k at

-- ---- a task that the ticket's entries allow

no_fault_of : (o : Option Why) → IsInPlace o
    → IsNoTaskFault (Declined.Refused (Refused.Step (unwrap_or o Why.NoMemory)))
no_fault_of None p = tt
no_fault_of (Some Why.NoQueue) p = tt
no_fault_of (Some Why.NoRoom) p = tt
no_fault_of (Some Why.NoEntry) p = tt
no_fault_of (Some Why.JobsFull) p = tt
no_fault_of (Some Why.NoTicket) p = absurd p
no_fault_of (Some Why.Conflict) p = tt
no_fault_of (Some Why.WrongState) p = absurd p
no_fault_of (Some Why.CqFull) p = tt
no_fault_of (Some Why.NoCompletion) p = tt
no_fault_of (Some Why.BadBatch) p = tt
no_fault_of (Some Why.NoMemory) p = tt
no_fault_of (Some Why.Busy) p = tt

task_in_place : (c : ConfigNumbers) (past : Past) (t : ℕ) (k : Task)
    → task_fault (duty_at c past t) t (of_ticket t past) (task_step k t) ≡ None
    → IsNoTaskFault (Declined.Refused
    (refused_as (task_step k t) (unwrap_or (refusal c past (task_step k t)) Why.NoMemory)))
task_in_place c past t task.Grant none = no_fault_of (refusal c past (Step.Grant t)) (grant_in_place c past t none)
task_in_place c past t task.Block none = no_fault_of (refusal c past (Step.Block t)) (block_in_place c past t none)
task_in_place c past t task.Post none = no_fault_of (refusal c past (Step.Post t)) (post_in_place c past t none)

pub no_fault : (p q : Pass ControllerState) (w v : TicketSeat ControllerState) (x : TicketWork) (n : ℕ) (k : Task)
    (r : Result Answer Declined) → config_of q ≡ config_of p → ControllerInvariant (config_of q) (entries (seen q))
    → Saw q w v r
    → IsWorkAt (ticket_config w) (entries (ticket_seen w)) x n
    → (IsNotBusy r → of_ticket x.ticket (entries (seen q)) ≡ its v)
    → task_fault (duty_of x) x.ticket (its w) (task_step k x.ticket) ≡ None
    → IfErr r (λ d. Declines Refuses p q (task_step k x.ticket) d × (its v ≡ its w)) → IfErr r IsNoTaskFault
no_fault p q w v x n k (Ok a) same kept s at whole none d = tt
no_fault p q w v x n k (Err (Declined.Busy step)) same kept s at whole none d = tt
no_fault p q w v x n k (Err (Declined.Refused r)) same kept s at whole none d =
    let t = x.ticket in
    let past = entries (seen q) in
    let here = learned_work q w v x n s kept at in
    let all : its w ≡ of_ticket t past = sym (whole tt ∙ d.1) in
    let fault : task_fault (duty_at (config_of q) past t) t (of_ticket t past) (task_step k t) ≡ None =
    subst (λ (z : Duty × Past). task_fault z.0 t z.1 (task_step k t) ≡ None) (λ i. (here.duty i, all i)) none in
    let is : refused_as (task_step k t) (unwrap_or (refusal (config_of q) past (task_step k t)) Why.NoMemory) ≡ r =
    ap (λ c. refused_as (task_step k t) (unwrap_or (refusal c past (task_step k t)) Why.NoMemory)) same
    ∙ sym d.0.1 in
    subst (λ z. IsNoTaskFault (Declined.Refused z)) is (task_in_place (config_of q) past t k fault)

-- ---- how far it has come

pub staged : (p q : Pass ControllerState) (w v : TicketSeat ControllerState) (x : TicketWork) (n : ℕ) (k : Task)
    (a : Answer) (s : DutyStage)
    → config_of q ≡ config_of p → ControllerInvariant (config_of q) (entries (seen q)) → Learned q w v
    → IsWorkAt (ticket_config w) (entries (ticket_seen w)) x n → of_ticket x.ticket (entries (seen q)) ≡ its v
    → Worked Accepts p q w v (task_step k x.ticket) a → s ≡ own_stage (duty_of x) x.ticket (its w)
    → answer_stage s a ≡ own_stage (duty_of x) x.ticket (its v)
staged p q w v x n k a s same kept l at whole by is =
    let here = learned_work q w v x n l kept at in
    let e = by.by.entry in
    let past = entries by.by.before in
    let there : entries (seen q) ≡ e ∷ past = ap entries by.by.ends in
    stage_after (config_of p) past x.ticket k e a (duty_of x) (its w) (its v) s here.some
    (subst (λ (z : ConfigNumbers × Past). IsLegal z.0 z.1) (λ i. (same i, there i)) kept.legal) by.by.says
    (here.duty ∙ (λ i. duty_at (same i) (there i) x.ticket)) is by.more (ap (of_ticket x.ticket) (sym there) ∙ whole)

pub next_of_work : (w : TicketSeat ControllerState) (x : TicketWork) (n : ℕ) (s : DutyStage) (o : Option Task)
    → s ≡ own_stage (duty_of x) x.ticket (its w) → IsWorkAt (ticket_config w) (entries (ticket_seen w)) x n
    → of_ticket x.ticket (entries (ticket_seen w)) ≡ its w → o ≡ next_task s
    → IfSome o (λ k. task_fault (duty_of x) x.ticket (its w) (task_step k x.ticket) ≡ None)
next_of_work w x n s None is at whole next = tt
next_of_work w x n s (Some k) is at whole next =
    let c = ticket_config w in
    let past = entries (ticket_seen w) in
    let t = x.ticket in
    let there : s ≡ own_stage (duty_at c past t) t (of_ticket t past) = is
    ∙ (λ i. own_stage (at.duty i) t (sym whole i)) in
    let none = next_allowed c past t at.legal k (ap next_task (sym there) ∙ sym next) in
    subst (λ (z : Duty × Past). task_fault z.0 t z.1 (task_step k t) ≡ None) (λ i. (sym at.duty i, whole i)) none
