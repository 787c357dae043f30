use Rattle.nvme_model.specs.declared.step.Step.{Step}
use Rattle.work_queue.specs.Engines.{fetch_declined}
use Rattle.shared_system.proofs.Going.{goes_declined}
use Rattle.shared_system.proofs.serving.fetch.Goals as goal

pub returns-in-Err-clause-goes : goal.returns-in-Err-clause-goes
returns-in-Err-clause-goes g c =
    let e = c.in-Err.ensures in
    goes_declined c.args.system.now c.args.caller.now c.fetch.new.pass
    (Step.Fetch c.args.queue) (fetch_declined c.in-Err.unmade)
    c.requires e.same e.knows e.declined
