use Rattle.std.proofs.Common.{Bool, subst, sym}
use Rattle.slot_host.specs.SlotHosts.{slot_state}
use Rattle.slot_host.specs.SlotStates.{KeepsSlots}
use Rattle.slot_host.proofs.HostBars.{takeover_open}
use Rattle.slot_host.proofs.HostBeginning.{takeover_kept}
use Rattle.slot_host.proofs.HostKeeping.{idle}
use Rattle.slot_host.proofs.slot_host.SlotHost.begin_takeover.Goals as goal

pub returns-clause-kept : goal.returns-clause-kept
returns-clause-kept g c =
    let s = c.args.self.now in
    let x = c.take_over-begun.ensures in
    subst (λ (took : Bool). KeepsSlots c.take_over-begun.new.driver s.number s.slots s.holds.items
    c.keep_takeover.new.under_way took) (sym c.bear_in_mind.ensures)
    (takeover_kept s.driver c.take_over-begun.new.driver s.number s.slots s.holds.items s.took_over.value c.args.slot
    c.keep_takeover.result c.args.dead c.take_over-begun.result c.keep_takeover.new.under_way
    (idle s.driver s.number s.slots s.holds.items s.under_way s.took_over.value c.requires.kept
    (takeover_open (slot_state s) c.args.slot c.args.dead c.requires.open).0)
    x.goes_on x.is x.of c.keep_takeover.ensures)
