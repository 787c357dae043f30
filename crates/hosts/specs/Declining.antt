-- Why what a loop asks for is declined.
use Rattle.nvme_model.specs.declared.refusal.Why.{Why}
use Rattle.controller_interface.specs.declared.answer.Refused.{Refused}
use Rattle.step_core.specs.declared.calls.FetchCall.{FetchCall}
use Rattle.meet_lock.specs.declared.pass.Declined.{Declined}
use Rattle.meet_lock.specs.declared.pass.Unmade.{Unmade}

-- of a Fetch: another caller had the controller, or it is refused for its queue, for the tickets in flight, or for want
-- of memory
abbrev pub IsFetchUnmade : Unmade FetchCall Why → Type 0
IsFetchUnmade (Unmade.Busy call) = Unit {0}
IsFetchUnmade (Unmade.Refused Why.NoQueue) = Unit {0}
IsFetchUnmade (Unmade.Refused Why.NoEntry) = Unit {0}
IsFetchUnmade (Unmade.Refused Why.JobsFull) = Unit {0}
IsFetchUnmade (Unmade.Refused Why.NoMemory) = Unit {0}
IsFetchUnmade _ = ⊥

-- of a task whose turn it is: another caller had the controller, or it is refused for now, or for want of memory
abbrev pub IsTaskDeclined : Declined → Type 0
IsTaskDeclined (Declined.Busy step) = Unit {0}
IsTaskDeclined (Declined.Refused (Refused.Step Why.Conflict)) = Unit {0}
IsTaskDeclined (Declined.Refused (Refused.Step Why.CqFull)) = Unit {0}
IsTaskDeclined (Declined.Refused (Refused.Step Why.NoMemory)) = Unit {0}
IsTaskDeclined _ = ⊥
