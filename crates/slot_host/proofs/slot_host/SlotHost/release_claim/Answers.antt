use Rattle.slot_host.proofs.HostBeginning.{release_kept}
use Rattle.slot_host.proofs.HostKeeping.{idle}
use Rattle.slot_host.proofs.slot_host.SlotHost.release_claim.Goals as goal

pub returns-clause-kept : goal.returns-clause-kept
returns-clause-kept g c =
    let s = c.args.self.now in
    let x = c.release-begun.ensures in
    release_kept s.driver c.release-begun.new.driver s.number s.slots s.holds.items c.keep_release.new.holds.items
    s.took_over.value c.args.slot c.keep_release.result c.args.claim c.release-begun.result c.keep_release.new.under_way
    (idle s.driver s.number s.slots s.holds.items s.under_way s.took_over.value c.requires.kept c.requires.idle.idle)
    c.requires.idle.nothing c.requires.held.0 c.requires.held.1 x.goes_on x.is x.slot_rules x.of
    c.keep_release.ensures.told c.keep_release.ensures.holds
