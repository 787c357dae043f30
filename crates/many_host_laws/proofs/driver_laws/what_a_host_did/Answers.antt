use Rattle.nvme_model.specs.Passes.{SharedPast}
use Rattle.driver_cas.specs.Drivers.{area_of, host_of, serial_of}
use Rattle.many_host_laws.proofs.Hosts.{PortIn, made_log, met_slot_rules, met_legal, met_own, met_tidy}
use Rattle.many_host_laws.proofs.driver_laws.what_a_host_did.Goals as goal

pub returns-clause-log : goal.returns-clause-log
returns-clause-log c = λ met x.
    let d = c.args.driver.now in
    made_log (area_of d) (host_of d) (serial_of d) d.began.value d.port met
    (record {
      legal = d.port.legal;
      first = x.first;
      counted = d.sole;
      tidy = d.tidy;
      slot_rules = x.slot_rules;
      begins = x.begins;
      whole = x.whole;
    })

pub returns-clause-legal : goal.returns-clause-legal
returns-clause-legal c = λ met x.
    let d = c.args.driver.now in
    met_legal (area_of d) (host_of d) (serial_of d) d.began.value d.port met
    (record {
      legal = d.port.legal;
      first = x.first;
      counted = d.sole;
      tidy = d.tidy;
      slot_rules = x.slot_rules;
      begins = x.begins;
      whole = x.whole;
    })

pub returns-clause-own : goal.returns-clause-own
returns-clause-own c = λ met x.
    let d = c.args.driver.now in
    met_own (area_of d) (host_of d) (serial_of d) d.began.value d.port met
    (record {
      legal = d.port.legal;
      first = x.first;
      counted = d.sole;
      tidy = d.tidy;
      slot_rules = x.slot_rules;
      begins = x.begins;
      whole = x.whole;
    })

pub returns-clause-tidy : goal.returns-clause-tidy
returns-clause-tidy c = λ met x.
    let d = c.args.driver.now in
    met_tidy (area_of d) (host_of d) (serial_of d) d.began.value d.port met
    (record {
      legal = d.port.legal;
      first = x.first;
      counted = d.sole;
      tidy = d.tidy;
      slot_rules = x.slot_rules;
      begins = x.begins;
      whole = x.whole;
    })

pub returns-clause-slot_rules : goal.returns-clause-slot_rules
returns-clause-slot_rules c = λ met x.
    let d = c.args.driver.now in
    met_slot_rules (area_of d) (host_of d) (serial_of d) d.began.value d.port met
    (record {
      legal = d.port.legal;
      first = x.first;
      counted = d.sole;
      tidy = d.tidy;
      slot_rules = x.slot_rules;
      begins = x.begins;
      whole = x.whole;
    })
