use Rattle.std.specs.Arc.{arc_value}
use Rattle.std.proofs.Common.{ap, length, subst, sym, ◌∙◌, ◌≡◌, ◌≤◌}
use Rattle.std.proofs.lemmas.List.{length-map, length-replicate}
use Rattle.nvme_model.proofs.Accepted.{accepted}
use Rattle.nvme_model.specs.declared.array.Range.{Range}
use Rattle.nvme_model.specs.declared.config.ConfigNumbers.{ConfigNumbers}
use Rattle.slot_disk.specs.Hosts.{AreHosts, IsServer, host_view}
use Rattle.slot_disk.specs.Views.{idle_host}
use Rattle.slot_disk.proofs.slot_disk.SlotDisk.new.Goals as goal

pub invariant_of-result : goal.invariant_of-result
invariant_of-result c =
    let o = c.in-Some.ensures in
    let s = c.in-Some.setting in
    let same : s.config ≡ c.args.config = o.setting.0 in
    let some : 1 ≤ c.args.config.cqs =
    subst (λ (k : ConfigNumbers). 1 ≤ k.cqs) c.numbers.ensures.value
    (accepted c.numbers.result c.numbers.ensures.accepted).some_cqs in
    let count : length c.in-Some.hosts.items ≡ c.args.config.cqs =
    sym (length-map c.in-Some.hosts.items host_view)
    ∙ (ap length o.views ∙ length-replicate c.args.config.cqs (idle_host c.args.slots.blocks)) in
    record {
      some = subst (λ (k : ConfigNumbers). 1 ≤ k.cqs) (sym same) some;
      count = count ∙ ap (λ (k : ConfigNumbers). k.cqs) (sym same);
      hosts = subst (λ (z : ConfigNumbers × Range). AreHosts (arc_value s.engine) z.0 z.1 c.in-Some.hosts.items)
          (λ i. (sym o.setting.0 i, sym o.setting.1 i)) o.hosts;
      server = subst (λ (k : ConfigNumbers). IsServer (arc_value s.engine) k c.in-Some.server) (sym same) o.server;
    }
