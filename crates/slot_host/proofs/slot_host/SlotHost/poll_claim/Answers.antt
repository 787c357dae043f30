use Rattle.slot_host.proofs.HostKeeping.{idle}
use Rattle.slot_host.proofs.HostPolled.{claim_polled}
use Rattle.slot_host.proofs.slot_host.SlotHost.poll_claim.Goals as goal

pub returns-clause-kept : goal.returns-clause-kept
returns-clause-kept g c =
    let s = c.args.self.now in
    let x = c.poll_claim-progress.ensures in
    let of = c.requires.of in
    claim_polled s.driver c.poll_claim-progress.new.driver s.number s.slots s.holds.items
    c.end_claim.new.holds.items s.took_over.value c.end_claim.result c.end_claim.new.under_way
    c.poll_claim-progress.result
    (idle s.driver s.number s.slots s.holds.items s.under_way s.took_over.value c.requires.kept c.requires.idle)
    x.goes_on x.slot_rules x.of (x.held of.1) (x.drawn c.requires.kept.drawn of.1) c.end_claim.ensures
