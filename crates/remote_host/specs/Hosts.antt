-- What contracts say of a host with many calls.
use Rattle.std.specs.Option.{option_to_list}
use Rattle.std.specs.Prelude.{Err, List, None, Ok, Option, Result, Some, [], is_some, true, ℕ, ⊤, ◌++◌, ◌∷◌, ◌≡◌, ◌≤◌}
use Rattle.std.specs.Prelude.{◌⊎◌}
use Rattle.slab.specs.Slab.{HasRoomFor, SameValues, Updates, get}
use Rattle.driver_calls.specs.declared.request.CallData.{CallData}
use Rattle.driver_calls.specs.declared.request.Request.{Request}
use Rattle.driver_cas.specs.Driving.{IsCallPolled, Starts, call_given_back}
use Rattle.driver_cas.specs.declared.call.Call.{Call}
use Rattle.driver_cas.specs.declared.call.Poll.{Poll}
use Rattle.driver_cas.specs.declared.driver.Driver.{Driver}
use Rattle.driver_cas.specs.declared.fault.Fault.{Fault}
use Rattle.driver_cas.specs.declared.port.Port.{Ghosts}
use Rattle.remote_host.specs.Calls.{IsKept, polled_of}
use Rattle.remote_host.specs.HostStates.{HostState}
use Rattle.remote_host.specs.declared.polled.NotGivenUp.{NotGivenUp}
use Rattle.remote_host.specs.declared.polled.Polled.{Polled}

module _ {P : Type 0} {g : Ghosts P} where
  -- a host over this driver; no call is in flight, and none was given up
  pub record IsHostOver (d : Driver P g) (h : HostState P g) : Type 0 where
    pub driver_is : h.driver ≡ d
    pub no_call : (n : ℕ) → get h.calls n ≡ None
    pub none_given_up : h.given_up ≡ []

  -- a call was asked of the host's driver, and its number is told, or the driver's fault
  pub record HostStarts (h i : HostState P g) (asked : Result Request Fault) (contents : CallData)
      (told : Result ℕ Fault) : Type 0 where
    pub answer : Result (Call P) Fault
    pub starts : Starts h.driver i.driver asked contents answer
    pub kept : IsKept h.calls i.calls answer told
    pub given_up : i.given_up ≡ h.given_up

  -- There is no room for one call more, and nothing was asked of the driver. Where a call had ended there is, until the
  -- numbers of 32 bits are used up.
  pub record HasNoRoom (h i : HostState P g) (told : Result ℕ Fault) : Type 0 where
    pub fault : told ≡ Err Fault.NoMemory
    pub driver : i.driver ≡ h.driver
    pub calls : SameValues h.calls i.calls
    pub given_up : i.given_up ≡ h.given_up
    pub full : HasRoomFor h.calls 1 → 4294967296 ≤ h.calls.vacant_key

  -- what a start call tells
  abbrev pub StartTells : HostState P g → HostState P g → Result Request Fault → CallData → Result ℕ Fault → Type 0
  StartTells h i asked contents told = HostStarts h i asked contents told ⊎ HasNoRoom h i told

  -- The call that was given up and whose turn it was is polled. It stands behind the others where it isn't answered;
  -- else it is done with, and so are its CIDs.
  pub record HasTurn (h i : HostState P g) (k : Call P) (others : List (Call P)) : Type 0 where
    pub polled : Poll P
    pub is : IsCallPolled h.driver i.driver k polled
    pub calls : i.calls ≡ h.calls
    pub given_up : i.given_up ≡ others ++ option_to_list (call_given_back polled)

  -- the first of the calls that were given up has its turn; where there is none, nothing has changed
  pub record TakesTurn (h i : HostState P g) : Type 0 where
    pub none : h.given_up ≡ [] → i ≡ h
    pub turn : (k : Call P) (others : List (Call P)) → h.given_up ≡ k ∷ others → HasTurn h i k others

  -- The host's call with this number was polled, and what came of it is told. It keeps its number where it isn't
  -- answered, else it leaves room for another.
  pub record HostPolls (h i : HostState P g) (n : ℕ) (k : Call P) (told : Polled) : Type 0 where
    pub polled : Poll P
    pub is : IsCallPolled h.driver i.driver k polled
    pub told_is : told ≡ polled_of polled
    pub calls : Updates h.calls i.calls n (call_given_back polled)
    pub room : call_given_back polled ≡ None → HasRoomFor i.calls 1
    pub given_up : i.given_up ≡ h.given_up

  -- where no call has the number nothing is polled, and nothing has changed
  abbrev pub PollsNumber : HostState P g → HostState P g → ℕ → Option Polled → Type 0
  PollsNumber h i n None = (get h.calls n ≡ None) × (i ≡ h)
  PollsNumber h i n (Some told) = (k : Call P) × (get h.calls n ≡ Some k) × HostPolls h i n k told

  -- what a poll tells: a call that was given up has its turn, and then the call with this number is polled
  abbrev pub PollTells : HostState P g → HostState P g → ℕ → Option Polled → Type 0
  PollTells h i n told = (mid : HostState P g) × TakesTurn h mid × PollsNumber mid i n told

  -- The call with this number has none from now on, and has its turn behind the others that were given up. Or no call
  -- has the number; or one has, and memory was refused. Then nothing has changed.
  abbrev pub GiveUpTells : HostState P g → HostState P g → ℕ → Result ⊤ NotGivenUp → Type 0
  GiveUpTells h i n (Ok x) =
      (i.driver ≡ h.driver) × (k : Call P) × (get h.calls n ≡ Some k) × Updates h.calls i.calls n None
      × (i.given_up ≡ h.given_up ++ k ∷ [])
  GiveUpTells h i n (Err NotGivenUp.NoCall) = (get h.calls n ≡ None) × (i ≡ h)
  GiveUpTells h i n (Err NotGivenUp.NoMemory) = (is_some (get h.calls n) ≡ true) × (i ≡ h)
