use Rattle.slot_host.proofs.HostBars.{slot_open}
use Rattle.slot_host.proofs.HostBeginning.{holder_kept}
use Rattle.slot_host.proofs.HostKeeping.{idle}
use Rattle.slot_host.proofs.slot_host.SlotHost.begin_holder.Goals as goal

pub keep_holder-requires : goal.keep_holder-requires
keep_holder-requires g c =
    (slot_open c.args.self.now.under_way c.args.self.now.holds.items c.args.slot c.requires.open).0

pub returns-clause-kept : goal.returns-clause-kept
returns-clause-kept g c =
    let s = c.args.self.now in
    let x = c.read_holder-begun.ensures in
    holder_kept s.driver c.read_holder-begun.new.driver s.number s.slots s.holds.items s.took_over.value c.args.slot
    c.keep_holder.result c.read_holder-begun.result c.keep_holder.new.under_way
    (idle s.driver s.number s.slots s.holds.items s.under_way s.took_over.value c.requires.kept
    (slot_open s.under_way s.holds.items c.args.slot c.requires.open).0)
    x.same x.later x.is x.of c.keep_holder.ensures
