use Rattle.std.proofs.Common.{map, subst, sym}
use Rattle.std.specs.List.{AllZip}
use Rattle.shared_system.specs.Callers.{WorkerContinues}
use Rattle.hosts.proofs.Crews.{fetcher_back, workers_back}
use Rattle.hosts.proofs.crew.in_scope.Goals as goal

pub returns-clause-fetcher : goal.returns-clause-fetcher
returns-clause-fetcher g c =
    fetcher_back c.args.system.now c.args.callers.fetcher c.ended-fetcher.result.0 c.ended-fetcher.result.1
    c.start_fetcher-fetching.result (λ h. h.promise) c.ended-fetcher.ensures.fetcher c.ended-fetcher.ensures.back
    c.start_fetcher-fetching.ensures.starts c.start_fetcher-fetching.ensures.back

pub returns-clause-workers : goal.returns-clause-workers
returns-clause-workers g c =
    let w = c.ended-fetcher.ensures.workers in
    subst (AllZip (WorkerContinues c.args.system.now) c.args.callers.workers.items) (sym w.1)
    (workers_back c.args.system.now c.ended-fetcher.result.1 c.args.callers.workers.items
    c.start_workers-begun.new.callers.items w.0 (map (λ h. h.promise) c.start_workers-begun.new.started.items)
    c.start_workers-begun.ensures.parted w.2)
