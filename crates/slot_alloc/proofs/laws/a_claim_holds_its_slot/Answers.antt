use Rattle.driver_cas.specs.Drivers.{area_of, before, host_of, serial_of as last_of}
use Rattle.driver_cas.specs.Ports.{view_of}
use Rattle.slot_log_laws.proofs.Views.{view_believed, view_holder}
use Rattle.slot_log_laws.specs.Hosts.{IsSlotView}
use Rattle.slot_alloc.specs.Areas.{block_of, claim_serial, slot_of}
use Rattle.slot_alloc.specs.SlotRules.{own_name}
use Rattle.slot_alloc.proofs.Asking.{inside_of}
use Rattle.slot_alloc.proofs.laws.a_claim_holds_its_slot.Goals as goal

pub returns : goal.returns
returns c =
    let d = c.args.driver.now in
    let k = c.args.claim.now in
    record {
      believed = λ held slot_rules host.
          let view : IsSlotView (before d) (area_of d) (host_of d) (last_of d) (view_of d.port) =
          record { legal = d.port.legal; premises = host; tidy = d.tidy; slot_rules = slot_rules } in
          view_believed (before d) (area_of d) (host_of d) (last_of d) (view_of d.port)
          (block_of (area_of d) (slot_of k)) (own_name d (claim_serial k)) view
          (inside_of (area_of d) (slot_of k) held.inside) held.believed;
      holder = λ held slot_rules host.
          let view : IsSlotView (before d) (area_of d) (host_of d) (last_of d) (view_of d.port) =
          record { legal = d.port.legal; premises = host; tidy = d.tidy; slot_rules = slot_rules } in
          view_holder (before d) (area_of d) (host_of d) (last_of d) (view_of d.port) (block_of (area_of d) (slot_of k))
          (own_name d (claim_serial k)) view (inside_of (area_of d) (slot_of k) held.inside) held.believed;
    }
