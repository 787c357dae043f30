use Rattle.driver_cas.specs.contracts.shared_port.SharedPortPort.TheImpl.{ghosts}
use Rattle.slot_host.proofs.HostUntouched.{untouched_kept}
use Rattle.slot_host.proofs.meeting.SlotHost+SharedPort.meet_pass.Goals as goal

pub returns-clause-kept : goal.returns-clause-kept
returns-clause-kept c =
    let s = c.args.self.now in
    let law = c.an_untouched_driver_keeps_its_takeovers.ensures in
    untouched_kept ghosts c.a_later_port_is_later.ensures.goes_on s.driver c.of-before.result.value
    c.meet_pass-met.new.self s.number s.slots s.holds.items s.under_way s.took_over.value c.requires.kept
    c.meet_pass-met.ensures.untouched c.of-before.ensures law.taking law.reading
