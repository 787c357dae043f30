-- Which submission queue a call is tried on, decided by computing: on queue 1 all CIDs are in use, and queue 2 has no
-- room, so it is the turn of queue 3.
use Rattle.std.proofs.Common.{List, None, Some, [], ap, arith, cond, inl, inr, refl, suc, sym, true, zero, ℕ, ◌<◌}
use Rattle.std.proofs.Common.{◌+◌, ◌++◌, ◌≡◌, ◌≤◌, ◌∙◌, ◌∷◌}
use Rattle.std.proofs.lemmas.Bool.{lt-ltb}
use Rattle.std.specs.List.Sorted.{IsStrictlyIncreasing}
use Rattle.std.specs.Prelude.{slice_index_or}
use Rattle.nvme_model.specs.Examples.{submit}
use Rattle.nvme_model.specs.declared.operation.Op.{Op}
use Rattle.driver_calls.specs.declared.event.PortEvent.{PortEvent}
use Rattle.driver_calls.specs.declared.request.CallData.{CallData}
use Rattle.driver_calls.specs.declared.request.Request.{Request}
use Rattle.driver_cas.specs.Cids.{QueueCids, held}
use Rattle.driver_cas.proofs.CidsLemmas.{held_here}
use Rattle.driver_cas.specs.Turns.{AreFree, ArePassed, HasTooFew, IsTurn}
use Rattle.driver_cas.specs.declared.driver.Driver.{Driver}
use Rattle.driver_cas.specs.declared.fault.PortFault.{PortFault}
use Rattle.driver_cas.specs.declared.held.CidUse.{CidUse}
use Rattle.driver_cas.specs.declared.port.Port.{Ghosts}

-- Reads of block 3 that were published to queue 1, under the CIDs below this one
abbrev reads : ℕ → List PortEvent
reads zero = []
reads (suc n) = PortEvent.Sent 1 (submit 2 0 n 3 0 [] ∷ []) ∷ reads n

-- A port that is how often a Publish was refused since: queue 2 has no room.
abbrev toy : Ghosts ℕ
toy = record {
  log = λ p. reads 64;
  steps = λ p. 64;
  owns = λ p q. true;
  follows = λ a b. a ≤ b;
  accepts = λ a b q batch. b ≡ a;
  refuses = λ a b q batch fault. (b ≡ suc a) × (q ≡ 2) × (fault ≡ PortFault.RingFull);
  reaps = λ a b r. b ≡ a;
  says = λ before start now q j o r. Unit {0};
}

-- so many CIDs that are used so
abbrev many : ℕ → CidUse → List CidUse
many zero h = []
many (suc n) h = h ∷ many n h

abbrev table : QueueCids
table = record { queues = 1 ∷ 2 ∷ 3 ∷ []; cids = many 64 CidUse.Waiting ++ many 128 CidUse.Free }

-- a Read of block 5
abbrev read : Request
read = record { op = Op.Read; slba = 5; blocks = 1 }

at_many : (n i : ℕ) (h : CidUse) (cids : List CidUse) → i < n → slice_index_or (many n h ++ cids) i CidUse.Free ≡ h
at_many zero i h cids below = absurd (omega (arith, below))
at_many (suc n) zero h cids below = refl
at_many (suc n) (suc i) h cids below = at_many n i h cids (omega (arith, below))

-- each CID of queue 1 waits
waits : (i : ℕ) → i < 64 → held table 1 i ≡ CidUse.Waiting
waits i below =
    held_here table 1 i (0 + i) (ap (λ b. cond b (Some (0 + i)) None) (lt-ltb i 64 below))
    ∙ at_many 64 (0 + i) CidUse.Waiting (many 128 CidUse.Free) (omega (arith, below))

pub none_free : HasTooFew table Op.Read 1
none_free i below free = let f : CidUse.Waiting ≡ CidUse.Free = sym (waits i below) ∙ free in cc

-- on queue 2 all are free
free : AreFree table Op.Read 2 0 1
unfolding held
free = record {
  first_free = refl;
  second_free = refl;
  first_below = omega arith;
  second_below = omega arith;
  unlike = λ e. cc;
}

-- the first two queues were passed over, and the port was asked once
pub passed : (d : Driver ℕ toy) → d.port ≡ 0 → d.cids ≡ table → ArePassed d 1 read (CallData.One []) 2
passed d port cids = rw cids (
  0,
  (0, sym port, inl (none_free, refl)),
  inr (
    omega arith,
    (
      0,
      1,
      submit 2 0 0 5 0 [] ∷ [],
      free,
      record { entry = (refl, refl); beside = refl },
      (refl, refl, refl),
    ),
  ),
)

-- the numbers of the queues rise
rising : IsStrictlyIncreasing (1 ∷ 2 ∷ 3 ∷ [])
rising zero low = omega arith
rising (suc zero) low = omega arith
rising (suc (suc k)) low = absurd (omega (arith, low))

pub turn : (d : Driver ℕ toy) → d.port ≡ 0 → d.cids ≡ table → IsTurn d 1 read (CallData.One []) 3
turn d port cids = record {
  place = 2;
  there = rw cids (omega arith);
  is = rw cids refl;
  rising = rw cids rising;
  passed = passed d port cids;
}

-- a port that was never asked passed over no queue that has free CIDs
pub unasked : (d : Driver ℕ toy) → d.cids ≡ table → ArePassed d 0 read (CallData.One []) 2 → ⊥
unasked d cids (before, first, second) = elim second [
  | inl few ↦ (rw cids at few.0) 0 (omega arith) free.first_free
  | inr refused ↦ let n = refused.1.5 in absurd (omega (arith, n))
]
