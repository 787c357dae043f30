use Rattle.slot_host.proofs.HostBeginning.{give_back_kept}
use Rattle.slot_host.proofs.HostKeeping.{idle}
use Rattle.slot_host.proofs.slot_host.SlotHost.give_back.Goals as goal

pub returns-clause-kept : goal.returns-clause-kept
returns-clause-kept g c =
    let s = c.args.self.now in
    let x = c.give_back-begun.ensures in
    give_back_kept s.driver c.give_back-begun.new.driver s.number s.slots s.holds.items
    c.keep_give_back.new.holds.items s.took_over.value c.args.slot c.keep_give_back.result c.args.held
    c.give_back-begun.result c.keep_give_back.new.under_way
    (idle s.driver s.number s.slots s.holds.items s.under_way s.took_over.value c.requires.kept c.requires.idle.idle)
    c.requires.idle.nothing c.requires.held.0 c.requires.held.1 c.requires.held.2 x.goes_on x.is x.of
    c.keep_give_back.ensures.told c.keep_give_back.ensures.holds
