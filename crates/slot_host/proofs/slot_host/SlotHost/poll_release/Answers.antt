use Rattle.slot_host.proofs.HostKeeping.{idle}
use Rattle.slot_host.proofs.HostPolled.{release_polled}
use Rattle.slot_host.proofs.slot_host.SlotHost.poll_release.Goals as goal

pub returns-clause-kept : goal.returns-clause-kept
returns-clause-kept g c =
    let s = c.args.self.now in
    let x = c.poll_release-released.ensures in
    release_polled s.driver c.poll_release-released.new.driver s.number s.slots s.holds.items s.took_over.value
    c.end_release.result c.end_release.new.under_way c.args.releasing c.poll_release-released.result
    (idle s.driver s.number s.slots s.holds.items s.under_way s.took_over.value c.requires.kept c.requires.idle)
    x.quiet x.goes_on.later x.is (c.end_release.ensures s.holds.items)
