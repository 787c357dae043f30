-- What contracts say of trying the submission queues.
use Rattle.std.specs.Prelude.{Contains, Err, List, Ok, Result, [], length, vec_capacity, ℕ, ◌∷◌, ◌≡◌, ◌≤◌, ◌⊎◌}
use Rattle.driver_cas.specs.Cids.{queues_of}
use Rattle.nvme_model.specs.declared.operation.Op.{Op}
use Rattle.nvme_model.specs.declared.submission.Submission.{Submission}
use Rattle.nvme_model.specs.Operations.{command_count}
use Rattle.driver_calls.specs.Entries.{IsBatch}
use Rattle.driver_calls.specs.declared.request.CallData.{CallData}
use Rattle.driver_calls.specs.declared.request.Request.{Request}
use Rattle.driver_calls.specs.declared.event.PortEvent.{PortEvent}
use Rattle.driver_cas.specs.Drivers.{IsSameDriver}
use Rattle.driver_cas.specs.Starts.{IsAsBefore, IsStarted, IsTaken}
use Rattle.driver_cas.specs.Turns.{AreFree, ArePassed, HasEnough, IsEndedBy, IsRefusedFor}
use Rattle.driver_cas.specs.declared.call.Call.{Call}
use Rattle.driver_cas.specs.declared.driver.Driver.{Driver}
use Rattle.driver_cas.specs.declared.fault.Fault.{Fault}
use Rattle.driver_cas.specs.declared.fault.PortFault.{PortFault}
use Rattle.driver_cas.specs.declared.port.Port.{Ghosts}
use Rattle.driver_cas.specs.declared.start.Tried.{Tried}

module _ {P : Type 0} {g : Ghosts P} where
  -- each submission queue of the driver was passed over, and by just that its port came to the later one
  abbrev pub NoneTook : Driver P g → Driver P g → Request → CallData → Type 0
  NoneTook d e r contents = ArePassed d e.port r contents (length (queues_of d.cids))

  -- A fault that the port, or want of CIDs or of memory, is the cause of. The first answer of the port that isn't
  -- RingFull ends the call; a growth of the driver's own comes before all of them, where there are CIDs for it.
  abbrev pub IsPortFault : Driver P g → Driver P g → Request → CallData → Fault → Type 0
  IsPortFault d e r contents Fault.RingFull = NoneTook d e r contents
  IsPortFault d e r contents Fault.Busy = IsEndedBy d e r contents PortFault.Busy
  IsPortFault d e r contents Fault.NoMemory =
      (HasEnough d.cids r.op × (e.port ≡ d.port)) ⊎ IsEndedBy d e r contents PortFault.NoMemory
  IsPortFault d e r contents _ = ⊥

  -- The call is begun. Or the driver is as before, and a port's fault is answered.
  abbrev pub IsTryBegun : Driver P g → Driver P g → Request → CallData → Result (Call P) Fault → Type 0
  IsTryBegun d e r contents (Ok k) = IsStarted d e k r.op r.slba r.blocks contents
  IsTryBegun d e r contents (Err f) = IsAsBefore d e × IsPortFault d e r contents f

  -- what the Publish of a call did
  pub record Sends (d e : Driver P g) (k : Call P) (l n : ℕ) (contents : CallData)
      (batch : List Submission) : Type 0 where
    pub start : k.start.value ≡ d.port
    pub same : IsSameDriver d e
    pub known : Contains (queues_of d.cids) k.queue
    pub later : g.follows d.port e.port
    pub accepted : g.accepts d.port e.port k.queue batch
    pub log : g.log e.port ≡ PortEvent.Sent k.queue batch ∷ g.log d.port
    pub is : IsBatch k.op l n k.first k.second contents batch
    pub free : AreFree d.cids k.op k.queue k.first k.second
    pub taken : IsTaken d.cids e.cids k.op k.queue k.first k.second

  -- what came of trying one submission queue
  abbrev pub IsTried : Driver P g → Driver P g → ℕ → Request → CallData → Tried P → Type 0
  IsTried d e queue r contents (Tried.Started k) =
      (k.queue ≡ queue) × (k.op ≡ r.op) × ((batch : List Submission) × Sends d e k r.slba r.blocks contents batch)
  IsTried d e queue r contents (Tried.Full c room) =
      IsAsBefore d e × (c ≡ contents) × (room.items ≡ []) × (command_count r.op ≤ vec_capacity room)
      × IsRefusedFor d d.port e.port queue r contents PortFault.RingFull
  IsTried d e queue r contents (Tried.Stopped Fault.Busy) =
      IsAsBefore d e × IsRefusedFor d d.port e.port queue r contents PortFault.Busy
  IsTried d e queue r contents (Tried.Stopped Fault.NoMemory) =
      IsAsBefore d e × IsRefusedFor d d.port e.port queue r contents PortFault.NoMemory
  IsTried d e queue r contents (Tried.Stopped _) = ⊥

-- what is made of a batch that wasn't published: for want of room its data and its room come back, else it is told why
abbrev pub IsNotSent : {P : Type 0} → PortFault → List Submission → Tried P → Type 0
IsNotSent PortFault.RingFull batch (Tried.Full c room) =
    ((o : Op) (slba blocks first second : ℕ) (contents : CallData) →
    IsBatch o slba blocks first second contents batch → c ≡ contents)
    × (room.items ≡ []) × (length batch ≤ vec_capacity room)
IsNotSent PortFault.Busy batch (Tried.Stopped f) = f ≡ Fault.Busy
IsNotSent PortFault.NoMemory batch (Tried.Stopped f) = f ≡ Fault.NoMemory
IsNotSent fault batch r = ⊥
