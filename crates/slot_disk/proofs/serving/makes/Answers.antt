use Rattle.std.specs.Arc.{arc_value}
use Rattle.work_queue.specs.Duties.{task_step}
use Rattle.slot_disk.proofs.Servers.{server_declined, server_worked}
use Rattle.slot_disk.proofs.serving.makes.Goals as goal

pub returns-in-Ok-clause-server : goal.returns-in-Ok-clause-server
returns-in-Ok-clause-server c =
    let e = c.in-Ok.ensures in
    let w = c.args.work.now in
    server_worked (arc_value c.args.setting.now.engine) c.args.setting.now.config c.args.server.now
    c.attempt_work.new.pass w.owner c.attempt_work.new.work.owner c.in-Some.task w.work.ticket c.in-Ok.field-0
    c.requires.server e.same.0 e.knows e.accepted

pub returns-clause-server : goal.returns-clause-server
returns-clause-server c =
    let e = c.in-Err.ensures in
    server_declined (arc_value c.args.setting.now.engine) c.args.setting.now.config c.args.server.now
    c.attempt_work.new.pass (task_step c.in-Some.task c.args.work.now.work.ticket) c.in-Err.field-0
    c.requires.server e.same.0 e.knows e.declined.0
