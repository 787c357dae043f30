-- The two queues of a port, and what is done to them.
use Rattle.std.specs.Prelude.{Err, List, None, Ok, Option, Result, Some, [], length, ℕ, ⊤, ◌++◌, ◌∷◌, ◌≡◌}
use Rattle.std.specs.declared.alloc.AllocError.{AllocError}
use Rattle.nvme_model.specs.declared.submission.Submission.{Submission}
use Rattle.driver_calls.specs.declared.event.PortEvent.{PortEvent}
use Rattle.driver_cas.specs.declared.fault.PortFault.{PortFault}
use Rattle.driver_cas.specs.declared.port.Reaped.{Reaped}
use Rattle.remote_host.specs.Events.{events_of}
use Rattle.remote_host.specs.declared.port.Outgoing.{Outgoing}
use Rattle.remote_host.specs.declared.port.RemotePort.{RemotePort}

-- the entries that were published and not taken away, the oldest first
abbrev pub to_carry : RemotePort → List Outgoing
to_carry p = p.outgoing.items

-- the completions that were brought and not reaped, the oldest first
abbrev pub brought : RemotePort → List Reaped
brought p = p.incoming.items

-- both queues are as before
pub record SameQueues (a b : RemotePort) : Type 0 where
  pub to_carry_is : to_carry b ≡ to_carry a
  pub brought_is : brought b ≡ brought a

-- the entries of a batch to this submission queue, each with the count of those behind it
abbrev pub entries_of : ℕ → List Submission → List Outgoing
entries_of queue [] = []
entries_of queue (s ∷ batch) = record { queue = queue; submission = s; more = length batch } ∷ entries_of queue batch

-- nothing is to be taken away or reaped, and it did nothing
pub record IsEmptyPort (p : RemotePort) : Type 0 where
  pub to_carry_none : to_carry p ≡ []
  pub brought_none : brought p ≡ []
  pub did_nothing : events_of p ≡ []

-- the second is the first at a later time: it did what the first did, and then maybe more
pub record IsLater (a b : RemotePort) : Type 0 where
  pub more : List PortEvent
  pub is : events_of b ≡ more ++ events_of a

-- the entries of the batch stand behind those that are to be taken away
pub record IsPublished (a b : RemotePort) (queue : ℕ) (batch : List Submission) : Type 0 where
  pub to_carry_is : to_carry b ≡ to_carry a ++ entries_of queue batch
  pub brought_is : brought b ≡ brought a

-- nothing but want of memory refuses a batch, and nothing has changed
pub record IsRefused (a b : RemotePort) (fault : PortFault) : Type 0 where
  pub cause : fault ≡ PortFault.NoMemory
  pub same : SameQueues a b
  pub log : events_of b ≡ events_of a

-- The completion that was brought first is reaped, and stands there no longer; where there is none, none is. No Reap is
-- put off.
abbrev pub IsReap : RemotePort → RemotePort → Result (Option Reaped) PortFault → Type 0
IsReap a b (Ok None) = (brought a ≡ []) × SameQueues a b
IsReap a b (Ok (Some r)) = (brought a ≡ r ∷ brought b) × (to_carry b ≡ to_carry a)
IsReap a b (Err f) = ⊥

-- the entry that was published first is taken away; where there is none, none is
abbrev pub IsTakenAway : RemotePort → RemotePort → Option Outgoing → Type 0
IsTakenAway a b None = (to_carry a ≡ []) × SameQueues a b
IsTakenAway a b (Some o) = (to_carry a ≡ o ∷ to_carry b) × (brought b ≡ brought a)

-- the completion stands behind those that were brought
pub record IsBehind (a b : RemotePort) (cqe payload : List ℕ) : Type 0 where
  pub brought_is : brought b ≡ brought a ++ record { cqe = cqe; payload = payload } ∷ []
  pub to_carry_is : to_carry b ≡ to_carry a

-- the completion was brought, or its payload comes back and nothing has changed
abbrev pub IsBrought : RemotePort → RemotePort → List ℕ → List ℕ → Result ⊤ (List ℕ × AllocError) → Type 0
IsBrought a b cqe payload (Ok x) = IsBehind a b cqe payload
IsBrought a b cqe payload (Err e) = (e.0 ≡ payload) × SameQueues a b
