use Rattle.std.proofs.Common.{subst, sym, true, ℕ, ◌≡◌}
use Rattle.nvme_model.specs.declared.array.Range.{Range}
use Rattle.driver_cas.specs.Drivers.{area_of, before, host_of, made, serial_of as last_of}
use Rattle.driver_cas.specs.Ports.{view_of}
use Rattle.slot_log_laws.proofs.Meeting.{other_hosts}
use Rattle.slot_log_laws.specs.Hosts.{IsSlotView}
use Rattle.slot_log_laws.specs.Swaps.{log_believed}
use Rattle.slot_alloc.specs.Areas.{block_of, claim_serial, slot_of}
use Rattle.slot_alloc.specs.SlotRules.{own_name}
use Rattle.slot_alloc.proofs.Asking.{inside_of}
use Rattle.slot_alloc.proofs.laws.no_slot_is_held_twice.Goals as goal

pub returns : goal.returns
returns c = λ held held_too slot_rules slot_rules_too host guest area met apart same.
    let d = c.args.one.now in
    let e = c.args.other.now in
    let a = c.args.claim.now in
    let b = c.args.second.now in
    let one : IsSlotView (before d) (area_of d) (host_of d) (last_of d) (view_of d.port) =
    record { legal = d.port.legal; premises = host; tidy = d.tidy; slot_rules = slot_rules } in
    let other : IsSlotView (before e) (area_of e) (host_of e) (last_of e) (view_of e.port) =
    record { legal = e.port.legal; premises = guest; tidy = e.tidy; slot_rules = slot_rules_too } in
    other_hosts (before d) (before e) (area_of d) (host_of d) (last_of d) (host_of e) (last_of e) (view_of d.port)
    (view_of e.port) (block_of (area_of d) (slot_of a)) (own_name d (claim_serial a)) (own_name e (claim_serial b)) one
    (subst (λ (s : Range). IsSlotView (before e) s (host_of e) (last_of e) (view_of e.port)) (sym area) other) met
    (inside_of (area_of d) (slot_of a) held.inside) held.believed
    (subst (λ (z : Range × ℕ). log_believed (made e) (block_of z.0 z.1) (own_name e (claim_serial b)) ≡ true)
    (λ i. (sym area i, sym same i)) held_too.believed) apart
