use Rattle.std.proofs.Common.{subst, sym, ℕ, ◌∙◌}
use Rattle.race_hosts.proofs.Playing.{played_on}
use Rattle.race.specs.Racers.{AreRacers}
use Rattle.race.proofs.seeded_racing.acts.Goals as goal

pub racer_turn-requires-clause-racers : goal.racer_turn-requires-clause-racers
racer_turn-requires-clause-racers g c =
    let s = c.args.scene.now in
    subst (λ (n : ℕ). AreRacers s.system.now s.play.now n c.args.racers.now.hosts.items) (sym c.servers.ensures)
    c.requires.racers.hosts

pub returns-in-Host : goal.returns-in-Host
returns-in-Host g c =
    let s = c.args.scene.now in
    let r = c.requires.racers in
    let new = c.racer_turn.new.racers in
    played_on c.racer_turn.result c.racer_turn.ensures.racers (λ are. record {
      servers = r.servers;
      hosts = subst (λ (n : ℕ). AreRacers s.system.now s.play.now n new.items) c.servers.ensures are;
      count = c.racer_turn.ensures.count ∙ r.count;
    })
