use Rattle.slot_host.specs.SlotHosts.{slot_state}
use Rattle.slot_host.proofs.HostBars.{any_open}
use Rattle.slot_host.proofs.HostBeginning.{claim_kept}
use Rattle.slot_host.proofs.HostKeeping.{idle}
use Rattle.slot_host.proofs.slot_host.SlotHost.begin_claim_any.Goals as goal

pub keep_claim-requires : goal.keep_claim-requires
keep_claim-requires g c = any_open (slot_state c.args.self.now) c.requires.open

pub returns-clause-kept : goal.returns-clause-kept
returns-clause-kept g c =
    let s = c.args.self.now in
    let x = c.claim_any-begun.ensures in
    claim_kept s.driver c.claim_any-begun.new.driver s.number s.slots s.holds.items s.took_over.value
    c.keep_claim.result c.claim_any-begun.result c.keep_claim.new.under_way
    (idle s.driver s.number s.slots s.holds.items s.under_way s.took_over.value c.requires.kept
    (any_open (slot_state s) c.requires.open))
    x.goes_on x.slot_rules x.of x.drawn c.keep_claim.ensures
