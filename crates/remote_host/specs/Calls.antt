-- The calls of one driver that are in flight, by their numbers, and those that were given up.
use Rattle.std.specs.Prelude.{Err, List, None, Ok, Result, Some, [], ℕ, ⊤, ◌∷◌, ◌≡◌, ◌≢◌}
use Rattle.slab.specs.Slab.{SameValues, Slab, Updates, get}
use Rattle.driver_cas.specs.Drivers.{IsCallOf, SharesNoCid}
use Rattle.driver_cas.specs.declared.call.Call.{Call}
use Rattle.driver_cas.specs.declared.call.Poll.{Poll}
use Rattle.driver_cas.specs.declared.driver.Driver.{Driver}
use Rattle.driver_cas.specs.declared.fault.Fault.{Fault}
use Rattle.driver_cas.specs.declared.port.Port.{Ghosts}
use Rattle.remote_host.specs.HostStates.{HostState}
use Rattle.remote_host.specs.declared.polled.Polled.{Polled}

module _ {P : Type 0} where
  -- the call has no CID in common with one of these
  abbrev pub SharesNone : Call P → List (Call P) → Type 0
  SharesNone k [] = ⊤
  SharesNone k (j ∷ ks) = SharesNoCid k j × SharesNone k ks

  -- nor with one that has a number
  abbrev pub IsBeside : Slab (Call P) → Call P → Type 0
  IsBeside calls k = (n : ℕ) (j : Call P) → get calls n ≡ Some j → SharesNoCid k j

module _ {P : Type 0} {g : Ghosts P} where
  -- All are the driver's, and no two with unlike numbers have a CID in common.
  pub record AreCallsOf (d : Driver P g) (calls : Slab (Call P)) : Type 0 where
    pub all : (n : ℕ) (k : Call P) → get calls n ≡ Some k → IsCallOf d k
    pub apart : (m n : ℕ) (j k : Call P) → m ≢ n → get calls m ≡ Some j → get calls n ≡ Some k → SharesNoCid j k

  -- Those that were given up are the driver's too, and have no CID in common with each other, nor with one that has a
  -- number.
  abbrev pub AreGivenUp : Driver P g → Slab (Call P) → List (Call P) → Type 0
  AreGivenUp d calls [] = ⊤
  AreGivenUp d calls (k ∷ ks) = IsCallOf d k × IsBeside calls k × SharesNone k ks × AreGivenUp d calls ks

  -- what always is so of a host's calls
  pub record KeepsCalls (h : HostState P g) : Type 0 where
    pub numbered : AreCallsOf h.driver h.calls
    pub given_up : AreGivenUp h.driver h.calls h.given_up

module _ {P : Type 0} where
  -- this number, which no call had, is that of the call from now on, and every other call keeps its own
  pub record IsAdded (old new : Slab (Call P)) (n : ℕ) (k : Call P) : Type 0 where
    pub free : get old n ≡ None
    pub added : Updates old new n (Some k)

  -- The call that was started is kept, and its number told. Or the fault is told for which it wasn't, and all calls are
  -- as before.
  abbrev pub IsKept : Slab (Call P) → Slab (Call P) → Result (Call P) Fault → Result ℕ Fault → Type 0
  IsKept old new (Ok k) (Ok n) = IsAdded old new n k
  IsKept old new (Err f) (Err e) = (e ≡ f) × SameValues old new
  IsKept old new _ _ = ⊥

  -- what is told of a poll
  abbrev pub polled_of : Poll P → Polled
  polled_of (Poll.Pending k) = Polled.Pending
  polled_of (Poll.Later f k) = Polled.Later f
  polled_of (Poll.Done r) = Polled.Done r
  polled_of (Poll.Failed f) = Polled.Failed f

  -- a call that a poll gives back has the number that was used last, and every other call keeps its own
  abbrev pub IsPutBack : Slab (Call P) → Slab (Call P) → Poll P → Type 0
  IsPutBack old new (Poll.Pending k) = Updates old new old.vacant_key (Some k)
  IsPutBack old new (Poll.Later f k) = Updates old new old.vacant_key (Some k)
  IsPutBack old new _ = new ≡ old
