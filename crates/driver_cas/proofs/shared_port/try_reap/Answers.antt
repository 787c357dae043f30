use Rattle.std.proofs.Common.{List, None, Some, ap, sym, ◌++◌, ◌∙◌}
use Rattle.nvme_model.specs.Passes.{entries}
use Rattle.meet_lock.specs.Passes.{config_of}
use Rattle.controller_interface.specs.State.{Refuses}
use Rattle.nvme_model.specs.declared.step.Step.{Step}
use Rattle.work_queue.specs.Engines.{reap_declined}
use Rattle.driver_calls.specs.declared.event.PortEvent.{PortEvent}
use Rattle.driver_cas.specs.Passes.{log_at}
use Rattle.driver_cas.proofs.Ports.{declined_mine, got_of, log_accepted, log_declined, reap_event, reap_room}
use Rattle.driver_cas.proofs.Ports.{reap_told, unmade_reap}
use Rattle.driver_cas.proofs.shared_port.try_reap.Goals as goal

pub returns-in-Ok-clause-got : goal.returns-in-Ok-clause-got
returns-in-Ok-clause-got c =
    let k = c.in-Ok.ensures in
    let a = k.accepted in
    let p = c.args.pass.now in
    let q = c.reap.new.pass in
    let g = reap_event (config_of p) c.args.queue (entries a.before) a.entry _ a.says in
    log_accepted c.args.queue p q a.entry a.before k.same a.ends a.adds k.knows.1
    ∙ ap (λ (xs : List PortEvent). xs ++ log_at c.args.queue p)
    (g.event ∙ got_of g.cqe g.payload c.in-Ok.completion.cqe c.in-Ok.completion.payload (sym g.answers))

pub returns-in-Some-clause-cause : goal.returns-in-Some-clause-cause
returns-in-Some-clause-cause c =
    let k = c.in-Err.ensures in
    reap_told c.args.pass.now c.reap.new.pass c.args.queue c.in-Err.unmade (Some c.in-Some.fault) k.same
    c.requires.there.0 c.requires.there.1 k.declined k.alone c.in-Some.ensures

pub returns-in-None-clause-cause : goal.returns-in-None-clause-cause
returns-in-None-clause-cause c =
    let k = c.in-Err.ensures in
    reap_told c.args.pass.now c.reap.new.pass c.args.queue c.in-Err.unmade None k.same c.requires.there.0
    c.requires.there.1 k.declined k.alone c.in-None.ensures

pub returns-in-Some-clause-fault : goal.returns-in-Some-clause-fault
returns-in-Some-clause-fault c =
    let k = c.in-Err.ensures in (
      log_declined c.args.queue c.args.pass.now c.reap.new.pass k.same
          (declined_mine Refuses c.args.pass.now c.reap.new.pass (Step.Reap c.args.queue)
          (reap_declined c.in-Err.unmade) k.declined) k.knows.1,
      reap_room _ _ _ c.in-Some.fault (returns-in-Some-clause-cause c),
    )

pub returns-in-None-clause-got : goal.returns-in-None-clause-got
returns-in-None-clause-got c =
    let k = c.in-Err.ensures in
    log_declined c.args.queue c.args.pass.now c.reap.new.pass k.same
    (declined_mine Refuses c.args.pass.now c.reap.new.pass (Step.Reap c.args.queue) (reap_declined c.in-Err.unmade)
    k.declined) k.knows.1

pub reap_fault-requires : goal.reap_fault-requires
reap_fault-requires c =
    unmade_reap c.args.pass.now c.reap.new.pass c.args.queue c.in-Err.unmade
    c.requires.there.0 c.requires.there.1 c.in-Err.ensures.declined
