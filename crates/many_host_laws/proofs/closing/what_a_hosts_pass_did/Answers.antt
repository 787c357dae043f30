use Rattle.std.proofs.Common.{[], refl, subst, true, ℕ, ◌≡◌}
use Rattle.nvme_model.specs.declared.array.Range.{Range}
use Rattle.nvme_model.specs.declared.config.ConfigNumbers.{ConfigNumbers}
use Rattle.driver_calls.specs.Events.{events}
use Rattle.driver_calls.specs.Log.{is_tidy}
use Rattle.driver_cas.specs.Drivers.{area_of, host_of, serial_of}
use Rattle.meet_lock.specs.Passes.{config_of, number, seen}
use Rattle.slot_log_laws.specs.SlotRules.{keeps_slot_rules}
use Rattle.many_host_laws.specs.Rosters.{keeps_to}
use Rattle.many_host_laws.proofs.Hosts.{PortIn, met_slot_rules, met_own, met_tidy}
use Rattle.many_host_laws.proofs.closing.what_a_hosts_pass_did.Goals as goal

pub returns : goal.returns
returns c = λ config slots pass queue host x.
    let d = c.args.driver.now in
    let s = seen d.port.pass in
    let a : PortIn (area_of d) (host_of d) (serial_of d) d.began.value d.port s =
    record {
      legal = d.port.legal;
      first = x.first;
      counted = d.sole;
      tidy = d.tidy;
      slot_rules = x.slot_rules;
      begins = ([], refl);
      whole = refl;
    } in
    let ec : config_of d.port.pass ≡ config = x.config in
    let eq : d.port.queue ≡ queue = x.queue_is in
    let n = number d.port.pass in
    record {
      last = serial_of d;
      own = subst (λ (z : ConfigNumbers × ℕ). keeps_to z.0 z.1 n s ≡ true) (λ i. (ec i, eq i))
          (met_own (area_of d) (host_of d) (serial_of d) d.began.value d.port s a);
      tidy = subst (λ (z : ConfigNumbers × ℕ). is_tidy (events z.0 z.1 n s) ≡ true) (λ i. (ec i, eq i))
          (met_tidy (area_of d) (host_of d) (serial_of d) d.began.value d.port s a);
      slot_rules = subst (λ (z : ConfigNumbers × ℕ × Range × ℕ).
          keeps_slot_rules z.2 z.3 (serial_of d) (events z.0 z.1 n s) ≡ true)
          (λ i. (ec i, eq i, x.area i, x.host_is i))
          (met_slot_rules (area_of d) (host_of d) (serial_of d) d.began.value d.port s a);
    }
