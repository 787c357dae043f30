use Rattle.std.proofs.Common.{arith, subst, sym, true, ℕ, ◌≡◌}
use Rattle.nvme_model.specs.declared.array.Range.{Range}
use Rattle.host_laws.proofs.Discipline.{has_area}
use Rattle.driver_cas.specs.Drivers.{area_of, host_of, made, serial_of as last_of}
use Rattle.slot_alloc.specs.Areas.{block_of, claim_serial, slot_of}
use Rattle.slot_alloc.specs.SlotRules.{own_name}
use Rattle.slot_log_laws.specs.Swaps.{log_believed}
use Rattle.many_host_laws.proofs.Hosts.{PortIn}
use Rattle.many_host_laws.proofs.TwoHosts.{never_both}
use Rattle.many_host_laws.proofs.driver_laws.two_hosts_never_hold_one_slot.Goals as goal

pub returns : goal.returns
returns c = λ passes met claim second x held held_too same.
    let d = c.args.one.now in
    let e = c.args.other.now in
    let l = block_of (area_of d) (slot_of claim) in
    let within = held.inside in
    let first : PortIn (area_of d) (host_of d) (last_of d) d.began.value d.port met =
    record {
      legal = d.port.legal;
      first = x.one.first;
      counted = d.sole;
      tidy = d.tidy;
      slot_rules = x.one.slot_rules;
      begins = x.one.begins;
      whole = x.one.whole;
    } in
    let other : PortIn (area_of e) (host_of e) (last_of e) e.began.value e.port met =
    record {
      legal = e.port.legal;
      first = x.two.first;
      counted = e.sole;
      tidy = e.tidy;
      slot_rules = x.two.slot_rules;
      begins = x.two.begins;
      whole = x.two.whole;
    } in
    never_both (area_of d) passes (host_of d) (host_of e) (last_of d) (last_of e) d.began.value d.port e.began.value
    e.port met l (own_name d (claim_serial claim)) (own_name e (claim_serial second)) first
    (subst (λ (s : Range). PortIn s (host_of e) (last_of e) e.began.value e.port met) x.area other)
    (record {
      config = x.config;
      apart = x.passes_apart;
      queues = x.queues;
      of_passes = x.of_passes;
      others = x.others;
    })
    x.hosts (has_area (area_of d) l (record { from = omega arith; to = omega (arith, within) })) held.believed
    (subst (λ (z : Range × ℕ). log_believed (made e) (block_of z.0 z.1) (own_name e (claim_serial second)) ≡ true)
    (λ i. (x.area i, sym same i)) held_too.believed)
