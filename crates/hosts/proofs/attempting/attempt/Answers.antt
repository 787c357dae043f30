use Rattle.work_queue.specs.Duties.{task_step}
use Rattle.hosts.proofs.Declining.{task_declined}
use Rattle.shared_system.proofs.Going.{goes_declined, goes_worked}
use Rattle.hosts.proofs.attempting.attempt.Goals as goal

pub unmade-requires : goal.unmade-requires
unmade-requires g c =
    task_declined c.args.caller.now.pass c.attempt_work.new.pass c.args.task c.args.work.now.work.ticket
    c.in-Err.declined
    c.in-Err.ensures.declined.0 c.in-Err.ensures.in_place

pub returns-in-Ok-clause-goes : goal.returns-in-Ok-clause-goes
returns-in-Ok-clause-goes g c =
    let w = c.args.work.now in
    let e = c.in-Ok.ensures in
    goes_worked c.args.system.now c.args.caller.now c.attempt_work.new.pass w.owner c.attempt_work.new.work.owner
    c.args.task w.work.ticket c.in-Ok.answer
    c.requires.own.0 e.same.0 e.knows e.accepted

pub returns-in-Err-clause-goes : goal.returns-in-Err-clause-goes
returns-in-Err-clause-goes g c =
    let e = c.in-Err.ensures in
    goes_declined c.args.system.now c.args.caller.now c.attempt_work.new.pass
    (task_step c.args.task c.args.work.now.work.ticket) c.in-Err.declined
    c.requires.own.0 e.same.0 e.knows e.declined.0
