use Rattle.driver_cas.specs.Drivers.{area_of, before, host_of, serial_of as last_of}
use Rattle.driver_cas.specs.Ports.{view_of}
use Rattle.slot_log_laws.proofs.Views.{view_disciplined}
use Rattle.slot_alloc.proofs.laws.a_driver_that_keeps_the_rules_keeps_the_discipline.Goals as goal

pub returns : goal.returns
returns c = λ slot_rules host.
    let d = c.args.driver.now in
    view_disciplined (before d) (area_of d) (host_of d) (last_of d) (view_of d.port)
    (record { legal = d.port.legal; premises = host; tidy = d.tidy; slot_rules = slot_rules })
