use Rattle.std.proofs.Common.{arith, subst, sym}
use Rattle.shared_system.specs.Callers.{AreLastWorkers}
use Rattle.shared_system.proofs.Systems.{workers_more}
use Rattle.shared_system.proofs.opening.put_worker.Goals as goal

pub returns-clause-workers : goal.returns-clause-workers
returns-clause-workers g c =
    let system = c.args._system.now in
    let config = c.args._config.now in
    let place = c.requires.number in
    let len = c.args.workers.now.ok.0 in
    subst (AreLastWorkers system config c.args._all c.args._count) (sym c.push_reserved.ensures.items)
    (workers_more system config c.args._all c.args._count c.args.workers.now.items c.args.worker c.requires.workers
    c.requires.worker c.requires.pass (omega (arith, place, len)))
