use Rattle.slot_host.proofs.HostUntouched.{untouched_kept}
use Rattle.slot_host.proofs.slot_host.SlotHost.attend.Goals as goal

pub returns-clause-kept : goal.returns-clause-kept
returns-clause-kept g c =
    let s = c.args.self.now in
    let law = c.an_untouched_driver_keeps_its_takeovers.ensures in
    untouched_kept g.P.Port g.met.P.Port.goes_on s.driver c.of-before.result.value c.attend-told.new.self s.number
    s.slots s.holds.items s.under_way s.took_over.value c.requires.kept c.attend-told.ensures.untouched
    c.of-before.ensures law.taking law.reading
