-- The log of a host that claims slot 0, wins it and releases it: what of it keeps the rules, and what is believed by
-- it.
use Rattle.std.specs.Prelude.{List, [], false, refl, true, ℕ, ◌∷◌, ◌≡◌}
use Rattle.nvme_model.specs.Array.{zeros}
use Rattle.nvme_model.specs.EntryBytes.{cqe_bytes}
use Rattle.nvme_model.specs.Examples.{submit}
use Rattle.nvme_model.specs.Slots.{Name, slot_block}
use Rattle.nvme_model.specs.Statuses.{compare_failure, failed_fused, success}
use Rattle.nvme_model.specs.declared.array.Range.{Range}
use Rattle.nvme_model.specs.declared.status.Status.{Status}
use Rattle.driver_calls.specs.Log.{is_tidy}
use Rattle.driver_calls.specs.declared.event.PortEvent.{PortEvent}
use Rattle.slot_log_laws.specs.SlotRules.{keeps_slot_rules}
use Rattle.slot_log_laws.specs.Swaps.{log_believed, log_released}

abbrev area : Range
area = record { slba = 0; blocks = 2 }

abbrev name : ℕ → ℕ → Name
name h s = record { host = h; serial = s }

-- a pair with CIDs 0 and 1 on slot l, on submission queue 3
abbrev swap : ℕ → List ℕ → List ℕ → PortEvent
swap l old new = PortEvent.Sent 3 (submit 5 1 0 l 0 old ∷ submit 1 2 1 l 0 new ∷ [])

-- the completion for a CID of submission queue 3
abbrev got : ℕ → Status → PortEvent
got cid s = PortEvent.Got (cqe_bytes 0 3 cid 1 s) []

abbrev claimed : List PortEvent
claimed = swap 0 zeros (slot_block (name 7 1)) ∷ []

abbrev won : List PortEvent
won = got 1 success ∷ got 0 success ∷ claimed

abbrev lost : List PortEvent
lost = got 1 failed_fused ∷ got 0 compare_failure ∷ claimed

abbrev released : List PortEvent
released = swap 0 (slot_block (name 7 1)) zeros ∷ won

pub tidy : is_tidy released ≡ true
tidy = refl

-- ---- what is believed

pub unanswered : log_believed claimed 0 (name 7 1) ≡ false
unanswered = refl

pub half_answered : log_believed (got 0 success ∷ claimed) 0 (name 7 1) ≡ false
half_answered = refl

pub believed : log_believed won 0 (name 7 1) ≡ true
believed = refl

pub not_of_another_slot : log_believed won 1 (name 7 1) ≡ false
not_of_another_slot = refl

pub not_after_a_loss : log_believed lost 0 (name 7 1) ≡ false
not_after_a_loss = refl

-- a completion that names another submission queue is no success of it
pub not_by_another : log_believed (PortEvent.Got (cqe_bytes 0 4 1 1 success) [] ∷ claimed) 0 (name 7 1) ≡ false
not_by_another = refl

pub not_after_a_release : log_believed released 0 (name 7 1) ≡ false
not_after_a_release = refl

pub is_released : log_released released 0 (name 7 1) ≡ true
is_released = refl

-- ---- what keeps the rules

pub claim_keeps_rules : keeps_slot_rules area 7 1 claimed ≡ true
claim_keeps_rules = refl

pub release_keeps_rules : keeps_slot_rules area 7 1 released ≡ true
release_keeps_rules = refl

-- not if its serial is above the last, nor if another host claims
pub serial_above : keeps_slot_rules area 7 0 claimed ≡ false
serial_above = refl

pub another_host : keeps_slot_rules area 8 1 claimed ≡ false
another_host = refl

-- a serial is used once, even where its claim was lost
pub serial_again : keeps_slot_rules area 7 1 (swap 1 zeros (slot_block (name 7 1)) ∷ lost) ≡ false
serial_again = refl

pub next_serial : keeps_slot_rules area 7 2 (swap 1 zeros (slot_block (name 7 2)) ∷ lost) ≡ true
next_serial = refl

-- what isn't believed isn't released
pub release_too_early : keeps_slot_rules area 7 1 (swap 0 (slot_block (name 7 1)) zeros ∷ claimed) ≡ false
release_too_early = refl

pub release_twice : keeps_slot_rules area 7 1 (swap 0 (slot_block (name 7 1)) zeros ∷ released) ≡ false
release_twice = refl

-- nothing else is written there; outside the area anything is
pub write_there : keeps_slot_rules area 7 1 (PortEvent.Sent 3 (submit 1 0 0 1 0 zeros ∷ []) ∷ []) ≡ false
write_there = refl

pub write_outside : keeps_slot_rules area 7 1 (PortEvent.Sent 3 (submit 1 0 0 2 0 zeros ∷ []) ∷ won) ≡ true
write_outside = refl
