-- What contracts say of calls of a disk's hosts that are begun and polled.
use Rattle.std.specs.Prelude.{Err, None, Ok, Option, Result, Some, false, if◌then◌else◌, length, nat_lt, not}
use Rattle.std.specs.Prelude.{slice_set, true, ℕ, ⊤, ◌+◌, ◌≡◌, ◌≤◌, ◌⊎◌}
use Rattle.nvme_model.specs.declared.array.Range.{Range}
use Rattle.nvme_model.specs.declared.config.ConfigNumbers.{ConfigNumbers}
use Rattle.driver_cas.specs.declared.fault.Fault.{Fault}
use Rattle.slot_host.specs.Begins.{or_bar}
use Rattle.slot_host.specs.declared.not_begun.NotBegun.{NotBegun}
use Rattle.slot_host.specs.declared.slot_told.SlotTold.{SlotTold}
use Rattle.slot_disk.specs.Views.{DiskView, HostView, has_slot, host_in, with_host}
use Rattle.slot_disk.specs.declared.unasked.Unasked.{Unasked}

-- ---- why no call of a host is begun

-- one is under way, or there is no such slot
abbrev pub slot_fault : ℕ → HostView → Option NotBegun
slot_fault i v =
    if v.calls then Some NotBegun.InCall else (if nat_lt i (length v.has) then None else Some NotBegun.NoSlot)

-- of a claim: the host has the slot
abbrev pub claim_fault : ℕ → HostView → Option NotBegun
claim_fault i v = or_bar (slot_fault i v) (has_slot v i) NotBegun.Held

-- of a claim of any slot: a call is under way
abbrev pub any_fault : HostView → Option NotBegun
any_fault v = or_bar None v.calls NotBegun.InCall

-- of a release: the host hasn't the slot
abbrev pub release_fault : ℕ → HostView → Option NotBegun
release_fault i v = or_bar (slot_fault i v) (not (has_slot v i)) NotBegun.NotHeld

-- ---- what a call changes

-- the claim is under way
abbrev pub claiming : HostView → HostView
claiming v = record { calls = true; has = v.has }

-- the release is, and the host has the slot no more
abbrev pub releasing : ℕ → HostView → HostView
releasing i v = record { calls = true; has = slice_set v.has i false }

-- what a poll leaves, by what it tells: the call goes on, or is over, and the host may have a slot by it
abbrev pub after_poll : SlotTold → HostView → HostView
after_poll SlotTold.Pending v = v
after_poll (SlotTold.Later f) v = v
after_poll (SlotTold.Held i) v = record { calls = false; has = slice_set v.has i true }
after_poll _ v = record { calls = false; has = v.has }

-- ---- what is told of it

-- Of a host: where something bars the call that is told; else it is begun, or its driver's fault is told, and then
-- nothing has changed.
pub record IsAskedOf (fault : HostView → Option NotBegun) (after : HostView → HostView) (v w : HostView)
    (told : Result ⊤ NotBegun) : Type 0 where
  pub barred : (n : NotBegun) → fault v ≡ Some n → (told ≡ Err n) × (w ≡ v)
  pub asked : fault v ≡ None → ((told ≡ Ok tt) × (w ≡ after v))
      ⊎ ((f : Fault) × (told ≡ Err (NotBegun.Fault f)) × (w ≡ v))

-- what a disk tells of it
abbrev pub told_of : Result ⊤ NotBegun → Result ⊤ Unasked
told_of (Ok u) = Ok u
told_of (Err n) = Err (Unasked.NotBegun n)

-- Of host h of a disk: the call is asked of it, and the other hosts stay as they were; or there is no such host.
pub record IsAsked (fault : HostView → Option NotBegun) (after : HostView → HostView) (d e : DiskView) (h : ℕ)
    (told : Result ⊤ Unasked) : Type 0 where
  pub none : host_in d h ≡ None → (told ≡ Err Unasked.NoHost) × (e ≡ d)
  pub asked : (v : HostView) → host_in d h ≡ Some v
      → (w : HostView) × (r : Result ⊤ NotBegun) × IsAskedOf fault after v w r × (told ≡ told_of r)
      × (e ≡ with_host d h w)

-- A host was polled: nothing is told where it has no call.
pub record IsPolledOf (v w : HostView) (told : Option SlotTold) : Type 0 where
  pub idle : v.calls ≡ false → (told ≡ None) × (w ≡ v)
  pub polled : v.calls ≡ true → (t : SlotTold) × (told ≡ Some t) × (w ≡ after_poll t v)

-- Host h of a disk was, and the others stay as they were; or there is no such host, and nothing is told.
pub record IsPolled (d e : DiskView) (h : ℕ) (told : Option SlotTold) : Type 0 where
  pub none : host_in d h ≡ None → (told ≡ None) × (e ≡ d)
  pub polled : (v : HostView) → host_in d h ≡ Some v
      → (w : HostView) × IsPolledOf v w told × (e ≡ with_host d h w)

-- There is a slot, and none beyond the volume.
abbrev pub AreSlots : ConfigNumbers → Range → Type 0
AreSlots c slots = (1 ≤ slots.blocks) × (slots.slba + slots.blocks ≤ c.blocks)
