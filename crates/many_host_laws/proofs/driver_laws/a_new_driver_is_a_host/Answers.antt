use Rattle.std.proofs.Common.{ap, refl, subst, sym, true, ◌∙◌, ◌≡◌}
use Rattle.driver_calls.specs.Views.{log_of, since}
use Rattle.driver_cas.specs.Drivers.{area_of, host_of, serial_of}
use Rattle.driver_cas.specs.Ports.{view_of}
use Rattle.driver_cas.specs.declared.shared_port.SharedPort.{SharedPort}
use Rattle.meet_lock.specs.Passes.{seen}
use Rattle.slot_log_laws.specs.SlotRules.{keeps_slot_rules}
use Rattle.many_host_laws.proofs.GoingOn.{slot_rules_first, none_done}
use Rattle.many_host_laws.proofs.driver_laws.a_new_driver_is_a_host.Goals as goal

pub returns : goal.returns
returns c = λ same none.
    let d = c.args.driver.now in
    record {
      first = ap (λ (p : SharedPort). seen p.pass) (sym same) ∙ none;
      slot_rules = subst (λ (p : SharedPort).
          keeps_slot_rules (area_of d) (host_of d) (serial_of d) (since (log_of (view_of p)) (log_of (view_of d.port)))
          ≡ true) same
          (slot_rules_first (area_of d) (host_of d) (serial_of d) (log_of (view_of d.port)) (none_done d.port none));
      config = refl;
      area = refl;
      pass_is = refl;
      queue_is = refl;
      host_is = refl;
    }
