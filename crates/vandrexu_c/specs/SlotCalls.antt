-- What a slot host's calls tell, in numbers and as it lies in C.
use Rattle.std.specs.Prelude.{Err, None, Ok, Option, Result, Some, ℕ, ⊤, ◌≡◌}
use Rattle.driver_cas.specs.Faults.{call_fault_number}
use Rattle.slot_host.specs.declared.not_begun.NotBegun.{NotBegun}
use Rattle.slot_host.specs.declared.slot_told.SlotTold.{SlotTold}
use Rattle.vandrexu_c.specs.SlotReplies.{failed_reply, holder_reply, plain_reply, slot_reply}
use Rattle.vandrexu_c.specs.declared.slot_reply.SlotReply.{SlotReply}

-- the number of a call that isn't begun
abbrev pub not_begun_number : NotBegun → ℕ
not_begun_number NotBegun.InCall = 116
not_begun_number NotBegun.NoSlot = 118
not_begun_number NotBegun.NotHeld = 119
not_begun_number NotBegun.Held = 120
not_begun_number NotBegun.BadName = 122
not_begun_number (NotBegun.Fault f) = call_fault_number f

-- 0 where it is begun
abbrev pub begun_number : Result ⊤ NotBegun → ℕ
begun_number (Ok x) = 0
begun_number (Err n) = not_begun_number n

-- the number of a poll: 0, or that of the fault, or 117 where the host has no call
abbrev pub told_number : Option SlotTold → ℕ
told_number None = 117
told_number (Some (SlotTold.Later f)) = call_fault_number f
told_number (Some (SlotTold.Failed f)) = call_fault_number f
told_number _ = 0

-- its reply, which is that of a call that isn't answered where the host has none
abbrev pub told_reply : Option SlotTold → SlotReply
told_reply (Some (SlotTold.Held slot)) = slot_reply slot
told_reply (Some SlotTold.Taken) = plain_reply 3
told_reply (Some SlotTold.Released) = plain_reply 4
told_reply (Some (SlotTold.Holder w)) = holder_reply w
told_reply (Some (SlotTold.Failed f)) = failed_reply f
told_reply _ = plain_reply 1

-- the call was begun, or wasn't, as this says, and its number is told
pub record BegunAs (K : Result ⊤ NotBegun → Type 0) (number : ℕ) : Type 0 where
  pub begun : Result ⊤ NotBegun
  pub is : K begun
  pub number_is : number ≡ begun_number begun

-- the call was polled, as this says, and its number and its reply are told
pub record ToldAs (K : Option SlotTold → Type 0) (number : ℕ) (reply : SlotReply) : Type 0 where
  pub told : Option SlotTold
  pub is : K told
  pub number_is : number ≡ told_number told
  pub reply_is : reply ≡ told_reply told
