use Rattle.std.specs.Arc.{arc_value}
use Rattle.std.proofs.Common.{subst, ◌∙◌}
use Rattle.std.proofs.lemmas.List.{length-set}
use Rattle.std.proofs.lemmas.Option.{slice_get_read}
use Rattle.std.specs.Prelude.{slice_set}
use Rattle.slot_disk.proofs.Disks.{one_polled}
use Rattle.slot_disk.proofs.Rounds.{hosts_with}
use Rattle.slot_disk.specs.Asks.{IsPolled}
use Rattle.slot_disk.specs.Hosts.{views}
use Rattle.slot_disk.specs.Views.{DiskView, disk_of}
use Rattle.slot_disk.proofs.slot_disk.SlotDisk.poll.Goals as goal

pub invariant_of-self : goal.invariant_of-self
invariant_of-self c =
    let i = c.self.invariant in
    let d = c.self.inside in
    record {
      some = i.some;
      count = length-set d.hosts.items c.in_ok-place.place c.poll.new.host ∙ i.count;
      hosts = hosts_with (arc_value d.setting.engine) d.setting.config d.setting.slots d.hosts.items c.in_ok-place.place
          c.poll.new.host i.hosts c.poll.ensures.host;
      server = i.server;
    }

pub returns : goal.returns
returns c =
    let d = c.self.inside in
    let p = c.in_ok-place.ensures in
    let s = c.index_mut.result.now in
    let t = c.poll.new.host in
    let here = slice_get_read d.hosts.items c.len.result c.in_ok-place.place s (c.len.ensures ∙ d.hosts.ok.0) p.1
    c.index_mut.ensures.value in
    subst (λ (v : DiskView). IsPolled v
    (disk_of d.setting.config d.setting.slots (views (slice_set d.hosts.items c.in_ok-place.place t))) c.args.host
    c.poll.result) c.self.view_is
    (one_polled d.setting.config d.setting.slots d.hosts.items c.args.host c.in_ok-place.place s p.0 here t
    c.poll.result c.poll.ensures.polled)
