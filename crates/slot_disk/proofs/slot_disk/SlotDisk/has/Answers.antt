use Rattle.std.proofs.Common.{ap, subst, sym, ℕ, ◌∙◌}
use Rattle.std.proofs.lemmas.Option.{slice_get_read}
use Rattle.slot_host.specs.SlotHosts.{slot_state}
use Rattle.slot_disk.proofs.Calls.{held_is}
use Rattle.slot_disk.proofs.Disks.{none_has, one_has}
use Rattle.slot_disk.specs.Views.{DiskView, IsNoHost, has}
use Rattle.slot_disk.proofs.slot_disk.SlotDisk.has.Goals as goal

pub returns-in-Some : goal.returns-in-Some
returns-in-Some c =
    let d = c.self.inside in
    let p = c.in-Some.ensures in
    let s = c.index.result.now in
    let here = slice_get_read d.hosts.items c.len.result c.in-Some.place s (c.len.ensures ∙ d.hosts.ok.0) p.1
    c.index.ensures in
    c.has.ensures ∙ (sym (held_is (slot_state s).holds c.args.slot)
    ∙ (sym (one_has d.setting.config d.setting.slots d.hosts.items c.args.host c.in-Some.place s p.0 here c.args.slot)
    ∙ ap (λ (v : DiskView). has v c.args.host c.args.slot) c.self.view_is))

pub returns-in-None : goal.returns-in-None
returns-in-None c =
    let d = c.self.inside in
    sym (none_has d.setting.config d.setting.slots d.hosts.items c.args.host c.args.slot
    (subst (λ (n : ℕ). IsNoHost c.args.host n) (c.len.ensures ∙ d.hosts.ok.0) c.in-None.ensures))
    ∙ ap (λ (v : DiskView). has v c.args.host c.args.slot) c.self.view_is
