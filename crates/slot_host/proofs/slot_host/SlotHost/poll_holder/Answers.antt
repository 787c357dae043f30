use Rattle.slot_host.proofs.HostKeeping.{idle}
use Rattle.slot_host.proofs.HostPolled.{holder_polled}
use Rattle.slot_host.proofs.slot_host.SlotHost.poll_holder.Goals as goal

pub returns-clause-kept : goal.returns-clause-kept
returns-clause-kept g c =
    let s = c.args.self.now in
    let x = c.poll_holder-polled.ensures in
    holder_polled s.driver c.poll_holder-polled.new.driver s.number s.slots s.holds.items s.took_over.value
    c.end_holder.result c.end_holder.new.under_way c.args.reading c.poll_holder-polled.result
    (idle s.driver s.number s.slots s.holds.items s.under_way s.took_over.value c.requires.kept c.requires.idle)
    x.quiet x.later x.is (c.end_holder.ensures s.holds.items)
