-- Who holds a slot, by what a Read of its block gave.
use Rattle.std.specs.Prelude.{Contains, Err, List, None, Ok, Option, Result, Some, [], bytes_eq, if◌then◌else◌}
use Rattle.std.specs.Prelude.{slice_get, ℕ, ◌++◌, ◌<◌, ◌≡◌, ◌⊎◌}
use Rattle.nvme_model.specs.Array.{zeros}
use Rattle.nvme_model.specs.History.{Past}
use Rattle.nvme_model.specs.Slots.{Name, name_of}
use Rattle.nvme_model.specs.Value.{value}
use Rattle.nvme_model.specs.declared.operation.Op.{Op}
use Rattle.nvme_model.specs.declared.submission.Submission.{Submission}
use Rattle.driver_calls.specs.Entries.{IsCommand, first_opcode}
use Rattle.driver_calls.specs.Log.{sent}
use Rattle.driver_calls.specs.declared.event.PortEvent.{PortEvent}
use Rattle.driver_calls.specs.declared.reply.Reply.{Reply}
use Rattle.driver_calls.specs.declared.request.CallData.{CallData}
use Rattle.driver_cas.specs.Cids.{queues_of}
use Rattle.driver_cas.specs.Drivers.{IsCallOf, answer_to, area_of, made, number_of}
use Rattle.driver_cas.specs.Tries.{IsTryBegun}
use Rattle.driver_cas.specs.declared.driver.Driver.{Driver}
use Rattle.driver_cas.specs.declared.fault.Fault.{Fault}
use Rattle.driver_cas.specs.declared.port.Port.{Ghosts}
use Rattle.slot_alloc.specs.Areas.{block_of}
use Rattle.slot_alloc.specs.Releases.{IsCallAnswered}
use Rattle.slot_takeover.specs.declared.holder.Holder.{Holder}
use Rattle.slot_takeover.specs.declared.holder.HolderPoll.{HolderPoll}
use Rattle.slot_takeover.specs.declared.holder.ReadingHolder.{ReadingHolder}

-- whoever a name that a block spells is, or somebody foreign where it spells none
abbrev pub holder_named : Option Name → Holder
holder_named None = Holder.Foreign
holder_named (Some n) = Holder.Of n

-- who holds a slot whose block has these bytes: nobody where they are zeros
abbrev pub holder_in : List ℕ → Holder
holder_in bytes = if bytes_eq bytes zeros then Holder.Free else holder_named (name_of bytes)

-- At one moment, when this history was the start or later, the block of the slot had the value that says so.
pub record WasHeldSo (start past : Past) (l : ℕ) (h : Holder) : Type 0 where
  pub later : Past
  pub since : Past
  pub is : past ≡ later ++ (since ++ start)
  pub says : h ≡ holder_in (value (since ++ start) l)

-- Entry j of submission queue q, as the log has it, is a Read of block l alone.
pub record IsReadIn (log : List PortEvent) (q j l : ℕ) : Type 0 where
  pub entry : Submission
  pub cid : ℕ
  pub there : slice_get (sent log q) j ≡ Some entry
  pub is : IsCommand entry (first_opcode Op.Read) 0 cid l 1 []

-- the bytes that a Read read
abbrev pub payload_of_read : Reply → List ℕ
payload_of_read (Reply.Read bytes) = bytes
payload_of_read _ = []

-- the reply is to a Read
abbrev pub IsRead : Reply → Type 0
IsRead (Reply.Read bytes) = Unit {0}
IsRead _ = ⊥

module _ {P : Type 0} where
  -- the fault for which a poll of the question is put off, if for one
  abbrev pub later_reading : HolderPoll P → Option Fault
  later_reading (HolderPoll.Later f j) = Some f
  later_reading _ = None

  -- the slot that is asked about
  abbrev pub slot_read : ReadingHolder P → ℕ
  slot_read k = k.slot

  -- the port as it was when the question was begun
  abbrev pub asked_at : ReadingHolder P → P
  asked_at k = k.call.start.value

module _ {P : Type 0} {g : Ghosts P} where
  -- the Read of the block of this slot is published by the driver's call
  abbrev pub IsReadBy : Driver P g → ReadingHolder P → Type 0
  IsReadBy d k = IsReadIn (made d) k.call.queue (number_of d k.call) (block_of (area_of d) k.slot)

  -- The driver began to read the block of this slot, which isn't answered.
  pub record IsReadingOf (d : Driver P g) (k : ReadingHolder P) : Type 0 where
    pub of : IsCallOf d k.call
    pub does : k.call.op ≡ Op.Read
    pub inside : k.slot < (area_of d).blocks
    pub reads : IsReadBy d k

  -- the Read of the block of slot i is begun, or nothing has changed and it is told why
  abbrev pub IsHolderBegun : Driver P g → Driver P g → ℕ → Result (ReadingHolder P) Fault → Type 0
  IsHolderBegun d e i (Ok k) =
      (k.slot ≡ i) × IsTryBegun d e (record { op = Op.Read; slba = block_of (area_of d) i; blocks = 1 })
      (CallData.One []) (Ok k.call)
  IsHolderBegun d e i (Err f) =
      IsTryBegun d e (record { op = Op.Read; slba = block_of (area_of d) i; blocks = 1 }) (CallData.One []) (Err f)

  -- The Read of the slot's block was answered with these bytes, and who held the slot by them.
  pub record IsHolderRead (e : Driver P g) (k : ReadingHolder P) (h : Holder) : Type 0 where
    pub bytes : List ℕ
    pub is : h ≡ holder_in bytes
    pub since : g.follows k.call.start.value e.port
    pub known : Contains (queues_of e.cids) k.call.queue
    pub reads : IsReadBy e k
    pub answered : IsCallAnswered e k.call (Ok (Reply.Read bytes))

  -- What `poll_holder` gives.
  abbrev pub IsHolderPolled : Driver P g → ReadingHolder P → HolderPoll P → Type 0
  IsHolderPolled e k (HolderPoll.Pending j) = (j ≡ k) × IsReadingOf e j × (answer_to e k.call ≡ None)
  IsHolderPolled e k (HolderPoll.Later f j) =
      (j ≡ k) × IsReadingOf e j × ((f ≡ Fault.Busy) ⊎ (f ≡ Fault.NoMemory)) × (answer_to e k.call ≡ None)
  IsHolderPolled e k (HolderPoll.Done h) = IsHolderRead e k h
  IsHolderPolled e k (HolderPoll.Failed (Fault.Status s)) = IsCallAnswered e k.call (Err s)
  IsHolderPolled e k (HolderPoll.Failed _) = ⊥
