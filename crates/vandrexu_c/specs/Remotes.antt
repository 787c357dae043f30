-- What contracts say of a remote host.
use Rattle.std.specs.Prelude.{List, None, Result, Some, [], drop, length, slice_get, ℕ, ◌+◌, ◌++◌, ◌<◌, ◌∷◌, ◌≡◌, ◌≤◌}
use Rattle.std.specs.Prelude.{◌⊎◌}
use Rattle.nvme_model.specs.declared.array.Range.{Range}
use Rattle.driver_calls.specs.declared.request.CallData.{CallData}
use Rattle.driver_calls.specs.declared.request.Request.{Request}
use Rattle.driver_cas.specs.Starts.{IsUntouched}
use Rattle.driver_cas.specs.declared.fault.Fault.{Fault}
use Rattle.remote_host.specs.Remotes as remote
use Rattle.remote_host.specs.Remotes.{IsNotLater}
use Rattle.remote_host.specs.Queues.{IsBehind, IsTakenAway, SameQueues, to_carry}
use Rattle.remote_host.specs.declared.port.Outgoing.{Outgoing}
use Rattle.remote_host.specs.declared.port.RemotePort.{RemotePort}
use Rattle.vandrexu_c.specs.Calls.{CallPolls, NumberTold}
use Rattle.vandrexu_c.specs.RemoteStates.{RemoteState, remote_port}
use Rattle.vandrexu_c.specs.declared.carrying.OutgoingEntry.{OutgoingEntry}
use Rattle.vandrexu_c.specs.declared.host_reply.HostReply.{HostReply}

-- ---- making one

-- a new host with these settings, on this submission queue, which has read nothing
pub record IsNewRemote (number acwu queue : ℕ) (slots : Range) (r : RemoteState) : Type 0 where
  pub host : remote.IsNewRemote number acwu slots (queue ∷ []) r.host
  pub nothing_read : r.payload ≡ []

-- a host and a submission queue have such numbers
abbrev pub AreNumbers : ℕ → ℕ → Type 0
AreNumbers number queue = (1 ≤ number) × (1 ≤ queue)

-- why no host is made: its number is 0; or else no submission queue has the number 0; or else the slots lie beyond each
-- volume; or else memory was refused
abbrev pub MayRefuseRemote : ℕ → ℕ → Range → ℕ → Type 0
MayRefuseRemote number queue slots told =
    ((told ≡ 115) × (number ≡ 0))
    ⊎ ((told ≡ 1) × (1 ≤ number) × (queue ≡ 0))
    ⊎ ((told ≡ 123) × AreNumbers number queue × (65536 < slots.slba + slots.blocks))
    ⊎ ((told ≡ 11) × AreNumbers number queue × (slots.slba + slots.blocks ≤ 65536))

-- ---- its calls

-- a call was asked of the host, and this is told
pub record RemoteStarts (r s : RemoteState) (asked : Result Request Fault) (contents : CallData) (told old new : ℕ)
    : Type 0 where
  pub answer : Result ℕ Fault
  pub starts : remote.RemoteStartTells r.host s.host asked contents answer
  pub told_is : NumberTold answer told old new
  pub payload : s.payload ≡ r.payload

-- the call with this number was polled, and this is told; no poll is put off
pub record RemotePolls (r s : RemoteState) (n told : ℕ) (reply : HostReply) : Type 0 where
  pub call : CallPolls r s n told reply
  pub at_once : IsNotLater call.polled

-- ---- what is carried

-- what is told of an entry
abbrev pub entry_told : Outgoing → OutgoingEntry
entry_told o =
    record {
      bytes = o.submission.entry;
      count = length o.submission.payload;
      more = o.more;
      queue = o.queue;
      zeros = 0 ∷ 0 ∷ 0 ∷ 0 ∷ 0 ∷ 0 ∷ [];
    }

-- The entry that is to be carried next is told: at 0 it is taken away, and its data is at the begin of the room; at 103
-- its data has no room there, and it stays; at 105 there is none.
pub record GivesNext (a b : RemotePort) (told : ℕ) (old new : OutgoingEntry) (room filled : List ℕ) : Type 0 where
  pub gives : told ≡ 0 → (o : Outgoing) × IsTakenAway a b (Some o) × (new ≡ entry_told o)
      × (filled ≡ o.submission.payload ++ drop (length o.submission.payload) room)
  pub short : told ≡ 103 → (o : Outgoing) × (slice_get (to_carry a) 0 ≡ Some o) × (new ≡ entry_told o)
      × (length room < length o.submission.payload) × SameQueues a b × (filled ≡ room)
  pub none : told ≡ 105 → IsTakenAway a b None × (new ≡ old) × (filled ≡ room)
  pub other : (told ≡ 0) ⊎ (told ≡ 103) ⊎ (told ≡ 105)

-- the same of a host, whose driver does nothing by it
pub record RemoteGives (r s : RemoteState) (told : ℕ) (old new : OutgoingEntry) (room filled : List ℕ) : Type 0 where
  pub untouched : IsUntouched r.host.driver s.host.driver
  pub calls : s.host.calls ≡ r.host.calls
  pub given_up : s.host.given_up ≡ r.host.given_up
  pub payload : s.payload ≡ r.payload
  pub next : GivesNext (remote_port r) (remote_port s) told old new room filled

-- the completion stands behind those that were brought, or memory was refused, and nothing has changed
abbrev pub TakesIn : RemotePort → RemotePort → List ℕ → List ℕ → ℕ → Type 0
TakesIn a b cqe payload told = ((told ≡ 0) × IsBehind a b cqe payload) ⊎ ((told ≡ 11) × SameQueues a b)

-- the same of a host
pub record RemoteTakes (r s : RemoteState) (cqe payload : List ℕ) (told : ℕ) : Type 0 where
  pub untouched : IsUntouched r.host.driver s.host.driver
  pub calls : s.host.calls ≡ r.host.calls
  pub given_up : s.host.given_up ≡ r.host.given_up
  pub read : s.payload ≡ r.payload
  pub takes : TakesIn (remote_port r) (remote_port s) cqe payload told
