use Rattle.std.specs.Arc.{arc_value}
use Rattle.nvme_model.specs.declared.step.Step.{Step}
use Rattle.work_queue.specs.Engines.{fetch_declined}
use Rattle.slot_disk.proofs.Servers.{server_declined, server_fetched}
use Rattle.slot_disk.proofs.serving.fetches.Goals as goal

pub returns-in-Ok-clause-server : goal.returns-in-Ok-clause-server
returns-in-Ok-clause-server c =
    let e = c.in-Ok.ensures in
    server_fetched (arc_value c.args.setting.now.engine) c.deref.result.now c.args.setting.now.config
    c.args.server.now c.fetch.new.pass c.args.queue c.in-Ok.work c.requires e.same e.knows e.accepted

pub returns-in-Err-clause-server : goal.returns-in-Err-clause-server
returns-in-Err-clause-server c =
    let e = c.in-Err.ensures in
    server_declined (arc_value c.args.setting.now.engine) c.args.setting.now.config c.args.server.now
    c.fetch.new.pass (Step.Fetch c.args.queue) (fetch_declined c.in-Err.field-0) c.requires e.same e.knows e.declined
