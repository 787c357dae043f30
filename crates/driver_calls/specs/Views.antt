-- What is known of the port of one completion queue of a shared controller.
use Rattle.std.specs.Prelude.{Bool, List, Option, Result, Some, [], length, nat_le, take, ℕ, ◌&&◌, ◌-◌, ◌==◌, ◌≡◌, ◌∷◌}
use Rattle.nvme_model.specs.Config.{completion_queue}
use Rattle.nvme_model.specs.Passes.{IsBeginning, SharedPast, entries}
use Rattle.nvme_model.specs.Refusals.{refusal}
use Rattle.nvme_model.specs.declared.config.ConfigNumbers.{ConfigNumbers}
use Rattle.nvme_model.specs.declared.entry.Entry.{Entry}
use Rattle.nvme_model.specs.declared.operation.Op.{Op}
use Rattle.nvme_model.specs.declared.refusal.Why.{Why}
use Rattle.nvme_model.specs.declared.status.Status.{Status}
use Rattle.nvme_model.specs.declared.step.Step.{Step}
use Rattle.nvme_model.specs.declared.submission.Submission.{Submission}
use Rattle.host_laws.specs.Beside.{IsSole}
use Rattle.driver_calls.specs.Events.{events}
use Rattle.driver_calls.specs.Says.{CallSays}
use Rattle.driver_calls.specs.declared.event.PortEvent.{PortEvent}
use Rattle.driver_calls.specs.declared.reply.Reply.{Reply}

-- the configuration of the controller, the completion queue, the number of the port's pass, and what that pass has seen
pub record PortView : Type 0 where
  pub config : ConfigNumbers
  pub queue : ℕ
  pub pass : ℕ
  pub seen : SharedPast

-- what the port published and reaped, the newest first
abbrev pub log_of : PortView → List PortEvent
log_of v = events v.config v.queue v.pass v.seen

-- the events that came to those that there were
abbrev pub since : List PortEvent → List PortEvent → List PortEvent
since began log = take (length log - length began) log

-- the submission queue is there and uses the completion queue
abbrev pub owns : PortView → ℕ → Bool
owns v q = nat_le 1 q && nat_le q v.config.pairs && (completion_queue v.config q == v.queue)

-- The same port, which has seen what it had seen, and maybe more.
pub record ViewFollows (a b : PortView) : Type 0 where
  pub same_config : b.config ≡ a.config
  pub same_queue : b.queue ≡ a.queue
  pub same_pass : b.pass ≡ a.pass
  pub goes_on : IsBeginning a.seen b.seen

-- What was seen ends with the Publish of this batch by the port's pass.
pub record Publishes (a b : PortView) (q : ℕ) (batch : List Submission) : Type 0 where
  pub before : SharedPast
  pub begins : IsBeginning a.seen before
  pub ends : b.seen ≡ (b.pass, Entry.Publish (record { queue = q; batch = batch })) ∷ before

-- at what was seen the batch is refused for want of room
abbrev pub IsFull : PortView → ℕ → List Submission → Type 0
IsFull v q batch = refusal v.config (entries v.seen) (Step.Publish q batch) ≡ Some Why.NoRoom

-- The premise of a driver: every Publish to the submission queues of its completion queue, and every Reap of that, in
-- what was seen is this driver's. They are all of its port's pass, which made none of them before the driver was made.
pub record IsAlone (before : List PortEvent) (now : PortView) : Type 0 where
  pub none : before ≡ []
  pub sole : IsSole now.config now.queue now.pass now.seen

-- what a call's answer, or that there is none yet, says of what was seen, where only this driver uses the port's queues
abbrev pub AnswerSays : List PortEvent → PortView → PortView → ℕ → ℕ → Op → Option (Result Reply Status) → Type 0
AnswerSays before start now q j o r =
    IsAlone before now → CallSays now.config (entries start.seen) (entries now.seen) q j o r
