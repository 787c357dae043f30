-- What contracts say of a driver and its calls.
use Rattle.std.specs.Prelude.{Contains, Err, List, None, Ok, Option, Result, Some, false, if◌then◌else◌, is_some}
use Rattle.std.specs.Prelude.{length, true, ℕ, ◌&&◌, ◌∷◌, ◌≡◌, ◌⊎◌}
use Rattle.nvme_model.specs.declared.array.Range.{Range}
use Rattle.nvme_model.specs.declared.status.Status.{Status}
use Rattle.driver_cas.specs.Cids.{QueueCids, held, queues_of}
use Rattle.driver_calls.specs.Log.{sent}
use Rattle.driver_calls.specs.Says.{IsCallIn, call_outcome}
use Rattle.driver_calls.specs.Views.{since}
use Rattle.driver_calls.specs.declared.event.PortEvent.{PortEvent}
use Rattle.driver_calls.specs.declared.reply.Reply.{Reply}
use Rattle.driver_cas.specs.Made.{after_answer}
use Rattle.driver_cas.specs.Tables.{IsHeld, is_free, is_its_cid}
use Rattle.driver_cas.specs.declared.call.Call.{Call}
use Rattle.driver_cas.specs.declared.call.Poll.{Poll}
use Rattle.driver_cas.specs.declared.driver.Driver.{Driver}
use Rattle.driver_cas.specs.declared.fault.Fault.{Fault}
use Rattle.driver_cas.specs.declared.fault.PortFault.{PortFault}
use Rattle.driver_cas.specs.declared.port.Port.{Ghosts}
use Rattle.driver_cas.specs.declared.port.Reaped.{Reaped}

-- what a poll tells of a port's fault
abbrev pub fault_told : PortFault → Fault
fault_told PortFault.RingFull = Fault.RingFull
fault_told PortFault.Busy = Fault.Busy
fault_told PortFault.NoMemory = Fault.NoMemory

-- the fault for which a poll is put off, if for one, where the port answered so
abbrev pub later_by : {A : Type 0} → Result A PortFault → Option Fault
later_by (Ok x) = None
later_by (Err f) = Some (fault_told f)

module _ {P : Type 0} {g : Ghosts P} where
  -- what the port did before its driver was made, and since
  abbrev pub before : Driver P g → List PortEvent
  before d = g.log d.began.value

  -- what its port did since the driver was made
  abbrev pub made : Driver P g → List PortEvent
  made d = since (before d) (g.log d.port)

  -- the number, on its submission queue, of the call's first entry among those of the driver
  abbrev pub number_of : Driver P g → Call P → ℕ
  number_of d k = length (sent (since (before d) (g.log k.start.value)) k.queue)

  -- The driver began the call, which hasn't ended: its entries are published, and its CIDs are in use.
  pub record IsCallOf (d : Driver P g) (k : Call P) : Type 0 where
    pub later : g.follows k.start.value d.port
    pub known : Contains (queues_of d.cids) k.queue
    pub published : IsCallIn (made d) k.queue k.op k.first k.second (number_of d k)
    pub in_use : IsHeld d.cids k.op k.queue k.first k.second

  -- what is known of the port where the call is answered so, or not yet
  abbrev pub SaysOfPort : Driver P g → Call P → Option (Result Reply Status) → Type 0
  SaysOfPort d k r = g.says (before d) k.start.value d.port k.queue (number_of d k) k.op r

  -- what a call is answered by what the port did since the driver was made
  abbrev pub answer_to : Driver P g → Call P → Option (Result Reply Status)
  answer_to d k = call_outcome (made d) k.queue k.op k.first k.second

  -- The port was asked once for a completion, and answered so that a poll is put off for this fault, if for one.
  pub record ReapsOnce (d e : Driver P g) (later : Option Fault) : Type 0 where
    pub answer : Result (Option Reaped) PortFault
    pub is : g.reaps d.port e.port answer
    pub log : g.log e.port ≡ after_answer answer (g.log d.port)
    pub told : later ≡ later_by answer

  -- What a poll of the call asks of the port, and for which fault it is put off, if for one: where the call's
  -- completions were all reaped before it asks nothing, and the port is as it was; else it asks once.
  abbrev pub AsksPort : Driver P g → Driver P g → Call P → Option Fault → Type 0
  AsksPort d e k later =
      ((is_some (answer_to d k) ≡ true) × (e.port ≡ d.port) × (later ≡ None))
      ⊎ ((answer_to d k ≡ None) × ReapsOnce d e later)

  -- its port as it is
  abbrev pub port_of : Driver P g → P
  port_of d = d.port

  -- its submission queues, in rising order
  abbrev pub queues_used : Driver P g → List ℕ
  queues_used d = queues_of d.cids

  -- the slot area, the host number, and the last serial that was drawn
  abbrev pub area_of : Driver P g → Range
  area_of d = d.slots

  -- the number of the driver's host
  abbrev pub host_of : Driver P g → ℕ
  host_of d = d.host

  -- 0's based
  abbrev pub acwu_of : Driver P g → ℕ
  acwu_of d = d.acwu

  -- the last serial that the driver drew, 0 for none
  abbrev pub serial_of : Driver P g → ℕ
  serial_of d = d.serial

  -- the driver's settings
  pub record HasSettings (d e : Driver P g) : Type 0 where
    pub began : e.began ≡ d.began
    pub host : e.host ≡ d.host
    pub acwu : e.acwu ≡ d.acwu
    pub slots : e.slots ≡ d.slots
    pub queues : queues_of e.cids ≡ queues_of d.cids

  -- and the last serial that it drew
  pub record IsSameDriver (d e : Driver P g) : Type 0 where
    pub began : e.began ≡ d.began
    pub host : e.host ≡ d.host
    pub acwu : e.acwu ≡ d.acwu
    pub slots : e.slots ≡ d.slots
    pub serial : e.serial ≡ d.serial
    pub queues : queues_of e.cids ≡ queues_of d.cids

module _ {P : Type 0} where
  -- the answer that a poll tells, if it tells one
  abbrev pub poll_answer : Poll P → Option (Result Reply Status)
  poll_answer (Poll.Done r) = Some (Ok r)
  poll_answer (Poll.Failed (Fault.Status s)) = Some (Err s)
  poll_answer _ = None

  -- the fault for which it is put off, if for one
  abbrev pub later_told : Poll P → Option Fault
  later_told (Poll.Later f j) = Some f
  later_told _ = None

  -- the call comes back, it may be for this cause; else it is answered, as failed with a status alone
  abbrev pub IsBack : Call P → Poll P → Type 0
  IsBack k (Poll.Pending j) = j ≡ k
  IsBack k (Poll.Later f j) = (j ≡ k) × ((f ≡ Fault.Busy) ⊎ (f ≡ Fault.NoMemory))
  IsBack k (Poll.Done r) = Unit {0}
  IsBack k (Poll.Failed (Fault.Status s)) = Unit {0}
  IsBack k (Poll.Failed _) = ⊥

  -- the two calls have no CID in common
  abbrev pub SharesNoCid : Call P → Call P → Type 0
  SharesNoCid k j = (q cid : ℕ) →
      is_its_cid k.op k.queue k.first k.second q cid ≡ true → is_its_cid j.op j.queue j.first j.second q cid ≡ false

  -- a call that was answered has no CID any more; all others are in use as before
  abbrev pub IsFreed : QueueCids → QueueCids → Call P → Poll P → Type 0
  IsFreed old new k r =
      (q cid : ℕ) → is_free (held new q cid)
      ≡ (if is_some (poll_answer r) && is_its_cid k.op k.queue k.first k.second q cid then true
      else is_free (held old q cid))

-- nothing came, or one completion
abbrev pub IsOneMore : List PortEvent → List PortEvent → Type 0
IsOneMore log more = (more ≡ log) ⊎ ((cqe : List ℕ) × (payload : List ℕ) × (more ≡ PortEvent.Got cqe payload ∷ log))

module _ {P : Type 0} {g : Ghosts P} where
  -- a call that comes back is still the driver's
  abbrev pub IsCallBack : Driver P g → Poll P → Type 0
  IsCallBack d (Poll.Pending k) = IsCallOf d k
  IsCallBack d (Poll.Later f k) = IsCallOf d k
  IsCallBack d _ = Unit {0}
