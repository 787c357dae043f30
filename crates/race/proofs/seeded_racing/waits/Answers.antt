use Rattle.std.proofs.Common.{subst, sym, ℕ, ◌∙◌}
use Rattle.race.specs.Racers.{AreRacers}
use Rattle.race.proofs.seeded_racing.waits.Goals as goal

pub busy_racer_turn-requires-clause-racers : goal.busy_racer_turn-requires-clause-racers
busy_racer_turn-requires-clause-racers g c =
    let s = c.args.scene.now in
    subst (λ (n : ℕ). AreRacers s.system.now s.play.now n c.args.racers.now.hosts.items) (sym c.servers.ensures)
    c.requires.racers.hosts

pub returns-in-Host : goal.returns-in-Host
returns-in-Host g c =
    let s = c.args.scene.now in
    let r = c.requires.racers in
    let new = c.busy_racer_turn.new.racers in
    record {
      servers = r.servers;
      hosts = subst (λ (n : ℕ). AreRacers s.system.now s.play.now n new.items) c.servers.ensures
          c.busy_racer_turn.ensures.racers;
      count = c.busy_racer_turn.ensures.count ∙ r.count;
    }
