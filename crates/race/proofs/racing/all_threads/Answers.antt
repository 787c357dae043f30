use Rattle.std.proofs.Common.{arith}
use Rattle.race_hosts.specs.Playing.{HostPassesContinue}
use Rattle.shared_system.specs.Callers.{WorkerContinues}
use Rattle.race.proofs.Ended.{hosts, workers, zip_length}
use Rattle.race.proofs.racing.all_threads.Goals as goal

pub returns-clause-workers : goal.returns-clause-workers
returns-clause-workers g c =
    workers c.args.system.now c.args.play.now c.args._workers c.args.callers.workers.items
    c.run_crew-fetcher.result.workers.items c.requires.callers.each c.run_crew-fetcher.ensures.workers

pub returns-clause-hosts : goal.returns-clause-hosts
returns-clause-hosts g c =
    hosts c.args.system.now c.args.play.now c.args._workers c.args.callers.hosts.items
    c.run_crew-fetcher.result.beside.0.items c.requires.callers.hosts.each c.run_crew-fetcher.ensures.beside.1.0
    (rw c.in_ok-played.was at c.run_crew-fetcher.ensures.beside.1.1)

pub returns-clause-counts : goal.returns-clause-counts
returns-clause-counts g c =
    let system = c.args.system.now in
    let w = zip_length (WorkerContinues system) c.args.callers.workers.items c.run_crew-fetcher.result.workers.items
    c.run_crew-fetcher.ensures.workers in
    let h = zip_length (HostPassesContinue system) c.args.callers.hosts.items c.run_crew-fetcher.result.beside.0.items
    c.run_crew-fetcher.ensures.beside.1.0 in
    let n = c.requires.callers.count in
    let m = c.requires.callers.hosts.count in
    let long = c.run_crew-fetcher.result.workers.ok.0 in
    let wide = c.run_crew-fetcher.result.beside.0.ok.0 in
    (omega (arith, w, n, long), omega (arith, h, m, wide))
