-- Which submission queue a call is tried on, and why others are passed over.
use Rattle.std.specs.List.Sorted.{IsStrictlyIncreasing}
use Rattle.std.specs.Prelude.{Contains, List, Some, get_or, length, suc, true, zero, ℕ, ◌<◌, ◌≡◌, ◌⊎◌}
use Rattle.nvme_model.specs.Operations.{is_pair}
use Rattle.nvme_model.specs.declared.operation.Op.{Op}
use Rattle.nvme_model.specs.declared.submission.Submission.{Submission}
use Rattle.driver_cas.specs.Cids.{AtMostOneFree, QueueCids, NoneFreeBelow, held, queues_of}
use Rattle.driver_cas.specs.declared.held.CidUse.{CidUse}
use Rattle.driver_calls.specs.Entries.{IsBatch}
use Rattle.driver_calls.specs.declared.request.CallData.{CallData}
use Rattle.driver_calls.specs.declared.request.Request.{Request}
use Rattle.driver_cas.specs.declared.driver.Driver.{Driver}
use Rattle.driver_cas.specs.declared.fault.PortFault.{PortFault}
use Rattle.driver_cas.specs.declared.port.Port.{Ghosts}

-- Two CIDs that a call of this operation may use: both are free, and those of a pair are unlike. Of any other operation
-- only the first counts.
pub record AreFree (cids : QueueCids) (o : Op) (queue first second : ℕ) : Type 0 where
  pub first_free : held cids queue first ≡ CidUse.Free
  pub second_free : held cids queue second ≡ CidUse.Free
  pub first_below : first < 64
  pub second_below : second < 64
  pub unlike : is_pair (Some o) ≡ true → first < second

-- too few CIDs of the submission queue are free for a call of this operation: none, or of a pair at most one
abbrev pub HasTooFew : QueueCids → Op → ℕ → Type 0
HasTooFew cids Op.Pair queue = AtMostOneFree cids queue
HasTooFew cids _ queue = NoneFreeBelow cids queue 64

-- enough of one of the submission queues are
pub record HasEnough (cids : QueueCids) (o : Op) : Type 0 where
  pub queue : ℕ
  pub first : ℕ
  pub second : ℕ
  pub known : Contains (queues_of cids) queue
  pub free : AreFree cids o queue first second

module _ {P : Type 0} {g : Ghosts P} where
  -- the port answered so, of these entries under CIDs that are free
  abbrev pub IsRefusedFor : Driver P g → P → P → ℕ → Request → CallData → PortFault → Type 0
  IsRefusedFor d before after queue r contents fault =
      (first : ℕ) × (second : ℕ) × (batch : List Submission) × AreFree d.cids r.op queue first second
      × IsBatch r.op r.slba r.blocks first second contents batch × g.refuses before after queue batch fault

  -- A submission queue was passed over, between two moments of the port with nothing else between: too few of its CIDs
  -- are free, and the port wasn't asked; or it was asked once, and had no room there.
  abbrev pub IsPassed : Driver P g → P → P → Request → CallData → ℕ → Type 0
  IsPassed d before after r contents queue =
      (HasTooFew d.cids r.op queue × (after ≡ before))
      ⊎ (g.follows before after × IsRefusedFor d before after queue r contents PortFault.RingFull)

  -- The first k of the driver's submission queues were passed over, one after another in their order, and by just that
  -- the driver's port came to this one.
  abbrev pub ArePassed : Driver P g → P → Request → CallData → ℕ → Type 0
  ArePassed d now r contents zero = now ≡ d.port
  ArePassed d now r contents (suc k) =
      (before : P) × ArePassed d before r contents k × IsPassed d before now r contents (get_or (queues_of d.cids) k 0)

  -- It is this submission queue's turn: it is one of the driver's, which are in rising order, and each before it was
  -- passed over.
  pub record IsTurn (d : Driver P g) (now : P) (r : Request) (contents : CallData) (queue : ℕ) : Type 0 where
    pub place : ℕ
    pub there : place < length (queues_of d.cids)
    pub is : get_or (queues_of d.cids) place 0 ≡ queue
    pub rising : IsStrictlyIncreasing (queues_of d.cids)
    pub passed : ArePassed d now r contents place

  -- On the submission queue whose turn it was the port answered so, last of all.
  pub record IsEndedBy (d e : Driver P g) (r : Request) (contents : CallData) (fault : PortFault) : Type 0 where
    pub queue : ℕ
    pub before : P
    pub known : Contains (queues_of d.cids) queue
    pub turn : IsTurn d before r contents queue
    pub later : g.follows d.port before
    pub last : g.follows before e.port
    pub refused : IsRefusedFor d before e.port queue r contents fault
