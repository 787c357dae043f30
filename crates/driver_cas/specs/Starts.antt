-- What contracts say of the start of a call.
use Rattle.std.specs.Prelude.{List, if◌then◌else◌, ℕ, ◌∷◌, ◌≡◌, ◌⊎◌}
use Rattle.nvme_model.specs.declared.operation.Op.{Op}
use Rattle.nvme_model.specs.declared.submission.Submission.{Submission}
use Rattle.driver_cas.specs.Cids.{QueueCids, held}
use Rattle.driver_cas.specs.declared.held.CidUse.{CidUse}
use Rattle.driver_calls.specs.declared.event.PortEvent.{PortEvent}
use Rattle.driver_calls.specs.Entries.{IsBatch}
use Rattle.driver_calls.specs.declared.request.CallData.{CallData}
use Rattle.driver_cas.specs.Drivers.{SharesNoCid, IsCallOf, IsSameDriver, made}
use Rattle.driver_cas.specs.Tables.{is_its_cid}
use Rattle.driver_cas.specs.Turns.{AreFree, IsTurn}
use Rattle.driver_cas.specs.declared.call.Call.{Call}
use Rattle.driver_cas.specs.declared.driver.Driver.{Driver}
use Rattle.driver_cas.specs.declared.port.Port.{Ghosts}

-- the call waits under its CIDs, all others are used as before
abbrev pub IsTaken : QueueCids → QueueCids → Op → ℕ → ℕ → ℕ → Type 0
IsTaken old new o queue first second =
    (q cid : ℕ) → held new q cid ≡ (if is_its_cid o queue first second q cid then CidUse.Waiting else held old q cid)

-- the batch was published and its CIDs are taken, or nothing has changed
abbrev pub IsSent : List PortEvent → List PortEvent → QueueCids → QueueCids → Op → ℕ → ℕ → ℕ → List Submission → Type 0
IsSent before after old new o queue first second batch =
    ((after ≡ PortEvent.Sent queue batch ∷ before) × IsTaken old new o queue first second)
    ⊎ ((after ≡ before) × (new ≡ old))

module _ {P : Type 0} {g : Ghosts P} where
  -- nothing was published, and no CID is used otherwise
  abbrev pub IsAsBefore : Driver P g → Driver P g → Type 0
  IsAsBefore d e = (made e ≡ made d) × (e.cids ≡ d.cids)

  -- The call is begun: its entries are those asked for, under CIDs that were free, and its port published just these,
  -- to the submission queue whose turn it was.
  pub record IsStarted (d e : Driver P g) (k : Call P) (o : Op) (slba blocks : ℕ) (contents : CallData) : Type 0 where
    pub batch : List Submission
    pub is : IsBatch o slba blocks k.first k.second contents batch
    pub does : k.op ≡ o
    pub turn : IsTurn d k.start.value (record { op = o; slba = slba; blocks = blocks }) contents k.queue
    pub free : AreFree d.cids o k.queue k.first k.second
    pub since : g.follows d.port k.start.value
    pub accepted : g.accepts k.start.value e.port k.queue batch
    pub published : made e ≡ PortEvent.Sent k.queue batch ∷ made d
    pub taken : IsTaken d.cids e.cids o k.queue k.first k.second
    pub of : IsCallOf e k
    pub others : (other : Call P) → IsCallOf d other → IsCallOf e other × SharesNoCid k other

  -- the same driver with a later port, which published nothing
  pub record IsUntouched (d e : Driver P g) : Type 0 where
    pub same : IsSameDriver d e
    pub later : g.follows d.port e.port
    pub as_before : IsAsBefore d e
