-- Submission queues that didn't take a call's entries.
use Rattle.std.proofs.Common.{All, List, ◌≡◌, ◌≢◌, refl, ℕ, zero, suc, length, inl, inr, ◌<◌, ◌≤◌, ◌+◌, ◌∙◌, get_or}
use Rattle.std.proofs.Common.{add-one, arith, subst, sym}
use Rattle.std.specs.List.Sorted.{IsStrictlyIncreasing}
use Rattle.std.specs.Prelude.{Contains, Err}
use Rattle.std.proofs.lemmas.List.Elements.{All-get_or}
use Rattle.std.proofs.lemmas.List.{get_or_default}
use Rattle.nvme_model.specs.declared.operation.Op.{Op}
use Rattle.driver_cas.specs.Cids.{QueueCids, NoneFreeBelow, queues_of}
use Rattle.driver_calls.specs.Entries.{IsBatch}
use Rattle.driver_calls.specs.declared.request.CallData.{CallData}
use Rattle.driver_calls.specs.declared.request.Request.{Request}
use Rattle.driver_cas.specs.Starts.{IsUntouched}
use Rattle.driver_cas.specs.Tries.{IsTryBegun, IsTried}
use Rattle.driver_cas.specs.Turns.{AreFree, ArePassed, HasTooFew, IsEndedBy, IsPassed, IsRefusedFor, IsTurn}
use Rattle.driver_cas.specs.declared.driver.Driver.{Driver}
use Rattle.driver_cas.specs.declared.fault.Fault.{Fault}
use Rattle.driver_cas.specs.declared.fault.PortFault.{PortFault}
use Rattle.driver_cas.specs.declared.port.Port.{Ghosts}
use Rattle.driver_cas.specs.declared.start.Tried.{Tried}

-- where no CID is free there are too few for a command by itself
pub few_single : (cids : QueueCids) (o : Op) (queue : ℕ) → o ≢ Op.Pair → NoneFreeBelow cids queue 64
    → HasTooFew cids o queue
few_single cids Op.Pair queue n h = absurd (n refl)
few_single cids Op.Read queue n h = h
few_single cids Op.Compare queue n h = h
few_single cids Op.Write queue n h = h
few_single cids Op.WriteZeroes queue n h = h

-- what is at a place is there
pub contained : (xs : List ℕ) (k : ℕ) → k < length xs → Contains xs (get_or xs k 0)
contained xs k within = (k, within, get_or_default xs k (get_or xs k 0) 0 within)

module _ {P : Type 0} (g : Ghosts P) where
  -- one queue more
  next_passed : (d : Driver P g) (before now : P) (r : Request) (contents : CallData) (k queue : ℕ)
      → queue ≡ get_or (queues_of d.cids) k 0 → ArePassed d before r contents k → IsPassed d before now r contents queue
      → ArePassed d now r contents (k + 1)
  next_passed d before now r contents k queue at below here =
      subst (λ (n : ℕ). ArePassed d now r contents n) (sym (add-one k))
      (before, below, subst (λ (q : ℕ). IsPassed d before now r contents q) at here)

  -- one without CIDs
  pub too_few : (d e : Driver P g) (r : Request) (contents : CallData) (k queue : ℕ) → IsUntouched d e
      → queue ≡ get_or (queues_of d.cids) k 0 → ArePassed d e.port r contents k → HasTooFew e.cids r.op queue
      → ArePassed d e.port r contents (k + 1)
  too_few d e r contents k queue x at below h =
      next_passed d e.port e.port r contents k queue at below
      (inl (subst (λ (c : QueueCids). HasTooFew c r.op queue) x.as_before.1 h, refl))

  -- where none has CIDs
  pub none_free : (d : Driver P g) (r : Request) (contents : CallData) → All (HasTooFew d.cids r.op) (queues_of d.cids)
      → ArePassed d d.port r contents (length (queues_of d.cids))
  none_free d r contents few = go (length (queues_of d.cids)) (omega arith)
    where
      go : (k : ℕ) → k ≤ length (queues_of d.cids) → ArePassed d d.port r contents k
      go zero h = refl
      go (suc k) h =
          let within : k < length (queues_of d.cids) = omega (arith, h) in
          let less : k ≤ length (queues_of d.cids) = omega (arith, h) in
          (d.port, go k less, inl (All-get_or (HasTooFew d.cids r.op) (queues_of d.cids) k 0 within few, refl))

  -- what the port answered, seen from before
  pub refused_over : (d e : Driver P g) (now : P) (r : Request) (contents same : CallData) (queue : ℕ)
      (fault : PortFault) → IsUntouched d e → same ≡ contents → IsRefusedFor e e.port now queue r same fault
      → IsRefusedFor d e.port now queue r contents fault
  refused_over d e now r contents same queue fault x is h = (
    h.0,
    h.1,
    h.2,
    subst (λ (c : QueueCids). AreFree c r.op queue h.0 h.1) x.as_before.1 h.3,
    subst (λ (c : CallData). IsBatch r.op r.slba r.blocks h.0 h.1 c h.2) is h.4,
    h.5,
  )

  -- and one without room
  pub no_room : (d e : Driver P g) (now : P) (r : Request) (contents same : CallData) (k queue : ℕ) → IsUntouched d e
      → same ≡ contents → g.follows e.port now → queue ≡ get_or (queues_of d.cids) k 0 → ArePassed d e.port r contents k
      → IsRefusedFor e e.port now queue r same PortFault.RingFull → ArePassed d now r contents (k + 1)
  no_room d e now r contents same k queue x is later at below full =
      next_passed d e.port now r contents k queue at below
      (inr (later, refused_over d e now r contents same queue PortFault.RingFull x is full))

  -- so it is the turn of the next
  pub turn_now : (d : Driver P g) (now : P) (r : Request) (contents : CallData) (k queue : ℕ)
      → IsStrictlyIncreasing (queues_of d.cids) → k < length (queues_of d.cids) → queue ≡ get_or (queues_of d.cids) k 0
      → ArePassed d now r contents k
      → IsTurn d now r contents queue
  turn_now d now r contents k queue rising within at below =
      record { place = k; there = within; is = sym at; rising = rising; passed = below }

  -- what ended the call
  pub ended_by : (d e : Driver P g) (f : Driver P g) (r : Request) (contents same : CallData) (queue : ℕ)
      (fault : PortFault) → Contains (queues_of d.cids) queue → IsTurn d e.port r contents queue → IsUntouched d e
      → same ≡ contents
      → g.follows e.port f.port → IsRefusedFor e e.port f.port queue r same fault → IsEndedBy d f r contents fault
  ended_by d e f r contents same queue fault known turn x is last h =
      record {
        queue = queue;
        before = e.port;
        known = known;
        turn = turn;
        later = x.later;
        last = last;
        refused = refused_over d e f.port r contents same queue fault x is h;
      }

  -- the driver as it was is as before, and so is what ended the call
  pub stopped : (d e f : Driver P g) (r : Request) (contents same : CallData) (queue : ℕ) (fault : Fault)
      → Contains (queues_of d.cids) queue → IsTurn d e.port r contents queue → IsUntouched d e → same ≡ contents
      → g.follows e.port f.port → IsTried e f queue r same (Tried.Stopped fault) → IsTryBegun d f r contents (Err fault)
  stopped d e f r contents same queue Fault.Busy known turn x is last h = (
    (h.0.0 ∙ x.as_before.0, h.0.1 ∙ x.as_before.1),
    ended_by d e f r contents same queue PortFault.Busy known turn x is last h.1,
  )
  stopped d e f r contents same queue Fault.NoMemory known turn x is last h = (
    (h.0.0 ∙ x.as_before.0, h.0.1 ∙ x.as_before.1),
    inr (ended_by d e f r contents same queue PortFault.NoMemory known turn x is last h.1),
  )
  stopped d e f r contents same queue Fault.Length known turn x is last h = absurd h
  stopped d e f r contents same queue Fault.TooLong known turn x is last h = absurd h
  stopped d e f r contents same queue Fault.RingFull known turn x is last h = absurd h
  stopped d e f r contents same queue (Fault.Status s) known turn x is last h = absurd h
  stopped d e f r contents same queue Fault.SlotArea known turn x is last h = absurd h
  stopped d e f r contents same queue Fault.NoSerial known turn x is last h = absurd h
