use Rattle.shared_system.proofs.Systems.{workers_all}
use Rattle.shared_system.proofs.opening.workers_of.Goals as goal

pub returns-clause-workers : goal.returns-clause-workers
returns-clause-workers g c =
    workers_all c.args.system.now c.args.config.now c.args.all _ c.loop.workers.items c.loop.invariant.1
