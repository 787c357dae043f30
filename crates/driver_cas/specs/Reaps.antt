-- What the engine answers a port's steps, and what the port makes of it.
use Rattle.std.specs.Prelude.{Err, None, Ok, Option, Result, Some, suc, ℕ, ◌-◌, ◌≡◌, ◌≢◌}
use Rattle.nvme_model.specs.Passes.{entries}
use Rattle.nvme_model.specs.Refusals.{refusal}
use Rattle.nvme_model.specs.declared.refusal.Why.{Why}
use Rattle.nvme_model.specs.declared.step.Step.{Step}
use Rattle.step_core.specs.declared.calls.ReapCall.{ReapCall}
use Rattle.meet_lock.specs.declared.pass.Unmade.{Unmade}
use Rattle.driver_calls.specs.Views.{PortView}
use Rattle.driver_cas.specs.declared.fault.PortFault.{PortFault}
use Rattle.driver_cas.specs.declared.port.Reaped.{Reaped}

-- the cause of a port's fault
abbrev pub cause_of : PortFault → Why
cause_of PortFault.RingFull = Why.NoRoom
cause_of PortFault.Busy = Why.Busy
cause_of PortFault.NoMemory = Why.NoMemory

-- a Reap of a completion queue that is there isn't made for these causes alone
abbrev pub IsReapUnmade : Unmade ReapCall Why → Type 0
IsReapUnmade (Unmade.Busy c) = Unit {0}
IsReapUnmade (Unmade.Refused Why.NoCompletion) = Unit {0}
IsReapUnmade (Unmade.Refused Why.NoMemory) = Unit {0}
IsReapUnmade _ = ⊥

-- what the port then answers: no fault where there is no completion
abbrev pub IsReapFault : Unmade ReapCall Why → Option PortFault → Type 0
IsReapFault (Unmade.Busy c) o = o ≡ Some PortFault.Busy
IsReapFault (Unmade.Refused Why.NoCompletion) o = o ≡ None
IsReapFault (Unmade.Refused Why.NoMemory) o = o ≡ Some PortFault.NoMemory
IsReapFault _ o = ⊥

-- how many steps there are after a Reap that found this
abbrev pub steps_with : Option Reaped → ℕ → ℕ
steps_with None n = n
steps_with (Some r) n = suc n

-- What is known where the engine was asked for a port's completion and the port answers so, by the number of the
-- engine's passes, and by what was known of the port before and is since: no completion was there. Or another caller
-- had the controller, which one pass alone never meets, and nothing has changed. Or nothing but want of memory refuses
-- it.
abbrev pub IsReapAnswered : ℕ → PortView → PortView → Result (Option Reaped) PortFault → Type 0
IsReapAnswered passes a b (Ok (Some r)) = Unit {0}
IsReapAnswered passes a b (Ok None) = refusal b.config (entries b.seen) (Step.Reap b.queue) ≡ Some Why.NoCompletion
IsReapAnswered passes a b (Err PortFault.RingFull) = ⊥
IsReapAnswered passes a b (Err PortFault.Busy) = (passes ≢ 1) × (b ≡ a)
IsReapAnswered passes a b (Err PortFault.NoMemory) = refusal b.config (entries b.seen) (Step.Reap b.queue) ≡ None

-- How many notices are counted whose completions aren't reaped, if they are, before a Reap and after: one less where a
-- completion came, none where none was there, and as many as before after a fault.
abbrev pub IsCounted : Option ℕ → Option ℕ → Result (Option Reaped) PortFault → Type 0
IsCounted None after r = after ≡ None
IsCounted (Some n) after (Ok (Some r)) = after ≡ Some (n - 1)
IsCounted (Some n) after (Ok None) = after ≡ Some 0
IsCounted (Some n) after (Err f) = after ≡ Some n
