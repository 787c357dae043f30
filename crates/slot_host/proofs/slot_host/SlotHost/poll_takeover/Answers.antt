use Rattle.slot_host.proofs.HostKeeping.{idle}
use Rattle.slot_host.proofs.HostPolled.{takeover_polled}
use Rattle.slot_host.proofs.slot_host.SlotHost.poll_takeover.Goals as goal

pub returns-clause-kept : goal.returns-clause-kept
returns-clause-kept g c =
    let s = c.args.self.now in
    let x = c.poll_takeover-progress.ensures in
    takeover_polled s.driver c.poll_takeover-progress.new.driver s.number s.slots s.holds.items
    c.end_takeover.new.holds.items s.took_over.value c.end_takeover.result c.end_takeover.new.under_way c.args.taking
    c.poll_takeover-progress.result
    (idle s.driver s.number s.slots s.holds.items s.under_way s.took_over.value c.requires.kept c.requires.idle)
    c.requires.of.0 x.quiet x.later x.is c.end_takeover.ensures
