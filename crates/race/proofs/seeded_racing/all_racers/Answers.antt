use Rattle.std.proofs.Common.{arith, subst, ℕ, ◌∙◌, ◌≡◌}
use Rattle.race.proofs.Callers.{fresh_ended}
use Rattle.race.specs.Racers.{AreRacers}
use Rattle.race.proofs.seeded_racing.all_racers.Goals as goal

pub returns : goal.returns
returns c =
    let system = c.args.scene.now.system.now in
    let play = c.args.scene.now.play.now in
    let n = c.args.scene.now.race.now.workers in
    let callers = c.requires.callers in
    let e : c.from.result ≡ n = omega arith in
    let last = callers.fetches.1 in
    let count = callers.count in
    let long = c.args.callers.workers.ok.0 in
    let idle = c.in_ok-working.ensures.count in
    record {
      servers = record {
        fetcher = (
          callers.fetcher,
          last,
          fresh_ended system play n c.args.callers.fetcher callers.fetcher
              callers.fetches.0 (omega (arith, last)),
        );
        fetching = (omega arith, c.args.scene.now.some);
        workers_are = λ k w at.
            let a = callers.each k w at in
            let m = a.2 in
            (a.2, fresh_ended system play n w.caller a.0.caller a.1 (omega (arith, m)), a.0);
        working = c.in_ok-working.ensures.idle;
        count = (omega (arith, count, long), idle ∙ e);
      };
      hosts = subst (λ (m : ℕ). AreRacers system play m c.in_ok-hosts.hosts.items) c.servers.ensures
          c.in_ok-hosts.ensures.racers;
      count = c.in_ok-hosts.ensures.count ∙ c.requires.hosts;
    }
