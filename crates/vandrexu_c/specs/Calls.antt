-- What contracts say of a host's calls by their numbers, for hosts of a disk and for those of a controller elsewhere.
use Rattle.std.specs.Prelude.{Err, List, None, Ok, Option, Result, Some, ℕ, ⊤, ◌≡◌}
use Rattle.driver_calls.specs.declared.reply.Reply.{Reply}
use Rattle.driver_cas.specs.Faults.{call_fault_number}
use Rattle.driver_cas.specs.declared.fault.Fault.{Fault}
use Rattle.driver_cas.specs.declared.port.Port.{Ghosts}
use Rattle.remote_host.specs.Hosts.{GiveUpTells, PollTells}
use Rattle.remote_host.specs.declared.polled.NotGivenUp.{NotGivenUp}
use Rattle.remote_host.specs.declared.polled.Polled.{Polled}
use Rattle.vandrexu_c.specs.HostReplies.{done_kind, failed_reply, plain_reply}
use Rattle.vandrexu_c.specs.HostStates.{Driven}
use Rattle.vandrexu_c.specs.declared.host_reply.HostReply.{HostReply}

-- what a start call tells: 0 and the number of the call, or that of the fault
abbrev pub NumberTold : Result ℕ Fault → ℕ → ℕ → ℕ → Type 0
NumberTold (Ok n) told old new = (told ≡ 0) × (new ≡ n)
NumberTold (Err f) told old new = (told ≡ call_fault_number f) × (new ≡ old)

-- the number of a poll: 0, that of its fault, or 117 where no call was polled
abbrev pub polled_number : Option Polled → ℕ
polled_number None = 117
polled_number (Some Polled.Pending) = 0
polled_number (Some (Polled.Later f)) = call_fault_number f
polled_number (Some (Polled.Done r)) = 0
polled_number (Some (Polled.Failed f)) = call_fault_number f

-- and its reply
abbrev pub polled_reply : Option Polled → HostReply
polled_reply (Some (Polled.Done r)) = plain_reply (done_kind r)
polled_reply (Some (Polled.Failed f)) = failed_reply f
polled_reply _ = plain_reply 1

-- what was read last, where that was these bytes before
abbrev pub polled_read : Option Polled → List ℕ → List ℕ
polled_read (Some (Polled.Done (Reply.Read payload))) before = payload
polled_read _ before = before

-- the number of giving a call up: 0, 117 where no call has the number, or 11 where memory was refused
abbrev pub number_given_up : Result ⊤ NotGivenUp → ℕ
number_given_up (Ok x) = 0
number_given_up (Err NotGivenUp.NoCall) = 117
number_given_up (Err NotGivenUp.NoMemory) = 11

module _ {P : Type 0} {g : Ghosts P} where
  -- the call with this number was polled, behind one that was given up, and this is told
  pub record CallPolls (h i : Driven P g) (n told : ℕ) (reply : HostReply) : Type 0 where
    pub polled : Option Polled
    pub is : PollTells h.host i.host n polled
    pub number : told ≡ polled_number polled
    pub reply_is : reply ≡ polled_reply polled
    pub payload : i.payload ≡ polled_read polled h.payload

  -- the call with this number was given up, or it is told why not
  pub record CallGivenUp (h i : Driven P g) (n told : ℕ) : Type 0 where
    pub answer : Result ⊤ NotGivenUp
    pub is : GiveUpTells h.host i.host n answer
    pub number : told ≡ number_given_up answer
    pub payload : i.payload ≡ h.payload
