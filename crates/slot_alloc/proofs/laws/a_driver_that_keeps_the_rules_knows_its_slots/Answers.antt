use Rattle.slot_alloc.proofs.laws.a_driver_that_keeps_the_rules_knows_its_slots.Goals as goal

pub returns : goal.returns
returns c = λ slot_rules host.
    let d = c.args.driver.now in
    record { legal = d.port.legal; premises = host; tidy = d.tidy; slot_rules = slot_rules }
