use Rattle.std.proofs.Common.{ap, ◌∙◌, ◌≡◌}
use Rattle.std.specs.declared.snapshot.Snapshot.{Snapshot}
use Rattle.driver_cas.specs.Drivers.{area_of, host_of, made, serial_of}
use Rattle.driver_cas.specs.declared.shared_port.SharedPort.{SharedPort}
use Rattle.meet_lock.specs.Passes.{seen}
use Rattle.slot_log_laws.specs.SlotRules.{keeps_slot_rules}
use Rattle.many_host_laws.proofs.driver_laws.a_host_goes_on.Goals as goal

pub returns-clause-slot_rules : goal.returns-clause-slot_rules
returns-clause-slot_rules c = λ config slots pass queue host released x slot_rules h.
    let s = x.settings in
    let v = x.later.view in
    record {
      first = ap (λ (b : Snapshot SharedPort). seen b.value.pass) s.began ∙ h.first;
      slot_rules = slot_rules;
      config = v.same_config ∙ h.config;
      area = s.slots ∙ h.area;
      pass_is = v.same_pass ∙ h.pass_is;
      queue_is = v.same_queue ∙ h.queue_is;
      host_is = s.host ∙ h.host_is;
    }

pub returns-clause-untouched : goal.returns-clause-untouched
returns-clause-untouched c = λ config slots pass queue host x h.
    let s = x.same in
    let v = x.later.view in
    let d = c.args.old.now.value in
    let e = c.args.new.now in
    let same : keeps_slot_rules (area_of e) (host_of e) (serial_of e) (made e)
    ≡ keeps_slot_rules (area_of d) (host_of d) (serial_of d) (made d) =
    λ i. keeps_slot_rules (s.slots i) (s.host i) (s.serial i) (x.as_before.0 i) in
    record {
      first = ap (λ (b : Snapshot SharedPort). seen b.value.pass) s.began ∙ h.first;
      slot_rules = same ∙ h.slot_rules;
      config = v.same_config ∙ h.config;
      area = s.slots ∙ h.area;
      pass_is = v.same_pass ∙ h.pass_is;
      queue_is = v.same_queue ∙ h.queue_is;
      host_is = s.host ∙ h.host_is;
    }
