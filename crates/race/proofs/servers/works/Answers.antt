use Rattle.std.proofs.Common.{arith, subst, sym, ℕ, ◌+◌, ◌∙◌, ◌≡◌}
use Rattle.race.specs.Racers.{AreRaceWorkers}
use Rattle.race.proofs.servers.works.Goals as goal

pub worker_turn-requires-clause-workers : goal.worker_turn-requires-clause-workers
worker_turn-requires-clause-workers g c =
    let s = c.args.scene.now in
    let e : c.from-top.result ≡ s.race.now.workers = omega arith in
    subst (λ (n : ℕ). AreRaceWorkers s.system.now s.play.now (n + 1) n c.args.servers.now.workers.items) (sym e)
    c.requires.servers.workers_are

pub returns : goal.returns
returns g c =
    let s = c.args.scene.now in
    let e : c.from-top.result ≡ s.race.now.workers = omega arith in
    let r = c.requires.servers in
    record {
      fetcher = r.fetcher;
      fetching = r.fetching;
      workers_are = subst (λ (n : ℕ). AreRaceWorkers s.system.now s.play.now (n + 1) n c.worker_turn.new.workers.items)
          e c.worker_turn.ensures.workers;
      working = c.worker_turn.ensures.working;
      count = (c.worker_turn.ensures.count.0 ∙ r.count.0, c.worker_turn.ensures.count.1 ∙ r.count.1);
    }
