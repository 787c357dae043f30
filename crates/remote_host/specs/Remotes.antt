-- What contracts say of a host of a controller that is somewhere else, beside what they say of any host.
use Rattle.std.specs.Prelude.{Err, List, None, Ok, Option, Result, Some, [], ℕ, ⊤, ◌≡◌, ◌⊎◌}
use Rattle.nvme_model.specs.declared.array.Range.{Range}
use Rattle.slab.specs.Slab.{get}
use Rattle.driver_calls.specs.declared.request.CallData.{CallData}
use Rattle.driver_calls.specs.declared.request.Request.{Request}
use Rattle.driver_cas.specs.Cids.{held}
use Rattle.driver_cas.specs.Drivers.{acwu_of, area_of, host_of, port_of, queues_used, serial_of}
use Rattle.driver_cas.specs.declared.call.Call.{Call}
use Rattle.driver_cas.specs.declared.fault.Fault.{Fault}
use Rattle.driver_cas.specs.declared.held.CidUse.{CidUse}
use Rattle.remote_host.specs.Hosts.{HasNoRoom, HostStarts}
use Rattle.remote_host.specs.Queues.{IsBehind, IsEmptyPort, SameQueues}
use Rattle.remote_host.specs.RemoteStates.{RemoteState}
use Rattle.remote_host.specs.declared.polled.Polled.{Polled}
use Rattle.remote_host.specs.declared.port.RemotePort.{RemotePort}

-- A host with these settings whose driver did nothing. All its CIDs are free; no call is in flight, and none was given
-- up.
pub record IsNewRemote (host acwu : ℕ) (slots : Range) (queues : List ℕ) (h : RemoteState) : Type 0 where
  pub port : IsEmptyPort (port_of h.driver)
  pub began : h.driver.began.value ≡ h.driver.port
  pub host_is : host_of h.driver ≡ host
  pub acwu_is : acwu_of h.driver ≡ acwu
  pub area_is : area_of h.driver ≡ slots
  pub serial_is : serial_of h.driver ≡ 0
  pub queues_are : queues_used h.driver ≡ queues
  pub free : (q cid : ℕ) → held h.driver.cids q cid ≡ CidUse.Free
  pub no_call : (n : ℕ) → get h.calls n ≡ None
  pub none_given_up : h.given_up ≡ []

-- Where a call was begun, the port just before its Publish is the port that was: no submission queue is passed over for
-- want of room. Else the queues are as before.
abbrev pub IsAtOnce : RemotePort → RemotePort → Result Request Fault → Result (Call RemotePort) Fault → Type 0
IsAtOnce a b (Ok q) (Ok k) = k.start.value ≡ a
IsAtOnce a b (Ok q) (Err f) = SameQueues a b × ((f ≡ Fault.RingFull) ⊎ (f ≡ Fault.NoMemory))
IsAtOnce a b (Err f) r = SameQueues a b

-- a call was asked of the host's driver, and its number is told, or the driver's fault
pub record RemoteStarts (h i : RemoteState) (asked : Result Request Fault) (contents : CallData) (told : Result ℕ Fault)
    : Type 0 where
  pub host : HostStarts h i asked contents told
  pub at_once : IsAtOnce h.driver.port i.driver.port asked host.answer

-- what a start call tells
abbrev pub RemoteStartTells : RemoteState → RemoteState → Result Request Fault → CallData → Result ℕ Fault → Type 0
RemoteStartTells h i asked contents told = RemoteStarts h i asked contents told ⊎ HasNoRoom h i told

-- no poll is put off
abbrev pub IsNotLater : Option Polled → Type 0
IsNotLater (Some (Polled.Later f)) = ⊥
IsNotLater _ = ⊤

-- the completion stands behind those that were brought, or its payload comes back and nothing has changed
abbrev pub IsHandedIn : RemotePort → RemotePort → List ℕ → List ℕ → Result ⊤ (List ℕ) → Type 0
IsHandedIn a b cqe payload (Ok x) = IsBehind a b cqe payload
IsHandedIn a b cqe payload (Err back) = (back ≡ payload) × SameQueues a b
