use Rattle.std.specs.Arc.{arc_value}
use Rattle.std.proofs.Common.{subst, ◌∙◌}
use Rattle.std.proofs.lemmas.List.{length-set}
use Rattle.std.proofs.lemmas.Option.{slice_get_read}
use Rattle.std.specs.Prelude.{slice_set}
use Rattle.slot_disk.proofs.Disks.{one_asked}
use Rattle.slot_disk.proofs.Rounds.{hosts_with}
use Rattle.slot_disk.specs.Asks.{IsAsked, claim_fault, claiming}
use Rattle.slot_disk.specs.Hosts.{views}
use Rattle.slot_disk.specs.Views.{DiskView, disk_of}
use Rattle.slot_disk.proofs.slot_disk.SlotDisk.claim.Goals as goal

pub invariant_of-self : goal.invariant_of-self
invariant_of-self c =
    let i = c.self.invariant in
    let d = c.self.inside in
    record {
      some = i.some;
      count = length-set d.hosts.items c.in-Some.place c.claim.new.host ∙ i.count;
      hosts = hosts_with (arc_value d.setting.engine) d.setting.config d.setting.slots d.hosts.items c.in-Some.place
          c.claim.new.host i.hosts c.claim.ensures.host;
      server = i.server;
    }

pub returns : goal.returns
returns c =
    let d = c.self.inside in
    let p = c.in-Some.ensures in
    let s = c.index_mut.result.now in
    let t = c.claim.new.host in
    let here = slice_get_read d.hosts.items c.len.result c.in-Some.place s (c.len.ensures ∙ d.hosts.ok.0) p.1
    c.index_mut.ensures.value in
    subst (λ (v : DiskView). IsAsked (claim_fault c.args.slot) claiming v
    (disk_of d.setting.config d.setting.slots (views (slice_set d.hosts.items c.in-Some.place t))) c.args.host
    c.told.result) c.self.view_is
    (one_asked d.setting.config d.setting.slots d.hosts.items c.args.host c.in-Some.place s p.0 here t
    (claim_fault c.args.slot) claiming
    c.claim.result c.told.result c.claim.ensures.asked c.told.ensures)
