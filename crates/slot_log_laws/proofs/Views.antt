-- What the log of a driver that keeps the rules of slots says of what its port saw.
use Rattle.std.proofs.Common.{List, Some, ap, sym, true, ℕ, ◌∙◌, ◌≡◌}
use Rattle.nvme_model.specs.Array.{has_block}
use Rattle.nvme_model.specs.Passes.{entries}
use Rattle.nvme_model.specs.Slots.{Name, believed, disciplined, holder}
use Rattle.nvme_model.specs.declared.array.Range.{Range}
use Rattle.host_laws.proofs.Beliefs.{believed_holds}
use Rattle.host_laws.proofs.Discipline.{area_has}
use Rattle.driver_calls.specs.Log.{is_tidy}
use Rattle.driver_calls.specs.Views.{PortView, log_of, since}
use Rattle.driver_calls.specs.declared.event.PortEvent.{PortEvent}
use Rattle.driver_calls.proofs.Views.{since_none}
use Rattle.slot_log_laws.specs.SlotRules.{keeps_slot_rules}
use Rattle.slot_log_laws.specs.Hosts.{IsSlotView, log_since}
use Rattle.slot_log_laws.specs.Swaps.{log_believed}
use Rattle.slot_log_laws.proofs.SlotRules.{slot_rules_parts}
use Rattle.slot_log_laws.proofs.Believing.{believes_back, log_believes}
use Rattle.slot_log_laws.proofs.Keeping.{slot_rules_disciplined}
use Rattle.slot_log_laws.proofs.Knowing.{Knows, log_knows}

-- its driver made all that its port did
pub whole_log : (before : List PortEvent) (slots : Range) (host last : ℕ) (v : PortView)
    → IsSlotView before slots host last v → log_since before v ≡ log_of v
whole_log before slots host last v x = ap (λ (b : List PortEvent). since b (log_of v)) x.premises.alone.none
    ∙ since_none (log_of v)

pub view_tidy : (before : List PortEvent) (slots : Range) (host last : ℕ) (v : PortView)
    → IsSlotView before slots host last v → is_tidy (log_of v) ≡ true
view_tidy before slots host last v x = ap is_tidy (sym (whole_log before slots host last v x)) ∙ x.tidy

pub view_slot_rules : (before : List PortEvent) (slots : Range) (host last : ℕ) (v : PortView)
    → IsSlotView before slots host last v → keeps_slot_rules slots host last (log_of v) ≡ true
view_slot_rules before slots host last v x =
    ap (keeps_slot_rules slots host last) (sym (whole_log before slots host last v x))
    ∙ x.slot_rules

pub view_knows : (before : List PortEvent) (slots : Range) (host last : ℕ) (v : PortView)
    → IsSlotView before slots host last v → Knows v.config (entries v.seen) v.queue (log_of v)
view_knows before slots host last v x =
    log_knows v.config v.queue v.pass v.seen x.legal x.premises.alone.sole (view_tidy before slots host last v x)

pub view_disciplined : (before : List PortEvent) (slots : Range) (host last : ℕ) (v : PortView)
    → IsSlotView before slots host last v → disciplined v.config slots (entries v.seen) ≡ true
view_disciplined before slots host last v x =
    slot_rules_disciplined v.config v.queue v.pass slots host v.seen x.legal x.premises.alone.sole
    (view_tidy before slots host last v x) x.premises.elsewhere x.premises.own_number
    (slot_rules_parts slots host last (log_of v) (view_slot_rules before slots host last v x)).each

-- ---- beliefs

pub view_believed : (before : List PortEvent) (slots : Range) (host last : ℕ) (v : PortView) (l : ℕ) (n : Name)
    → IsSlotView before slots host last v → has_block slots l ≡ true → log_believed (log_since before v) l n ≡ true
    → believed v.config (entries v.seen) l n ≡ true
view_believed before slots host last v l n x a b =
    log_believes v.config slots (entries v.seen) v.queue (log_of v) l n x.legal
    (view_disciplined before slots host last v x) (view_knows before slots host last v x) a
    (ap (λ (log : List PortEvent). log_believed log l n) (sym (whole_log before slots host last v x)) ∙ b)

pub view_holder : (before : List PortEvent) (slots : Range) (host last : ℕ) (v : PortView) (l : ℕ) (n : Name)
    → IsSlotView before slots host last v → has_block slots l ≡ true → log_believed (log_since before v) l n ≡ true
    → holder (entries v.seen) l ≡ Some n
view_holder before slots host last v l n x a b =
    believed_holds v.config slots (entries v.seen) l n x.legal (view_disciplined before slots host last v x)
    (area_has slots l a) (view_believed before slots host last v l n x a b)

pub view_back : (before : List PortEvent) (slots : Range) (host last : ℕ) (v : PortView) (l : ℕ) (n : Name)
    → IsSlotView before slots host last v → has_block slots l ≡ true → n.host ≡ host
    → believed v.config (entries v.seen) l n ≡ true → log_believed (log_since before v) l n ≡ true
view_back before slots host last v l n x a e b =
    ap (λ (log : List PortEvent). log_believed log l n) (whole_log before slots host last v x)
    ∙ believes_back v.config slots (entries v.seen) v.queue (log_of v) l host n x.legal x.premises.own_number
    (view_knows before slots host last v x) a e b
