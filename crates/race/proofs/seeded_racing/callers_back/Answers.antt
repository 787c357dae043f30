use Rattle.std.proofs.Common.{subst, sym, vec_len, ℕ, ◌+◌, ◌∙◌, ◌≡◌}
use Rattle.shared_system.specs.declared.system.HostPasses.{HostPasses}
use Rattle.race.specs.Ended.{EndDown}
use Rattle.race.specs.Racers.{AreRacers}
use Rattle.race.proofs.seeded_racing.callers_back.Goals as goal

pub hosts_back-requires-clause-racers : goal.hosts_back-requires-clause-racers
hosts_back-requires-clause-racers c =
    let s = c.args.scene.now in
    subst (λ (n : ℕ). AreRacers s.system.now s.play.now n c.args.racers.hosts.items) (sym c.servers.ensures)
    c.requires.racers.hosts

pub returns : goal.returns
returns c =
    let s = c.args.scene.now in
    let r = c.requires.racers in
    let m : vec_len c.args.racers.hosts ≡ s.play.now.config.cqs = r.count ∙ sym c.requires.hosts in
    record {
      workers_end = λ k w at. let a = r.servers.workers_are k w at in (a.0, a.1);
      fetcher = (r.servers.fetcher.1, r.servers.fetcher.2);
      hosts = subst (λ (z : ℕ × ℕ). EndDown (λ (h : HostPasses). h.pass) s.system.now.engine s.play.now z.0 (z.0 + z.1)
          c.in_ok-hosts.hosts.items) (λ i. (c.servers.ensures i, m i)) c.in_ok-hosts.ensures.hosts;
      counts = (r.servers.count.0, c.in_ok-hosts.ensures.count ∙ m);
    }
