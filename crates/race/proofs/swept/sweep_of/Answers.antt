use Rattle.std.proofs.Common.{subst, sym, ℕ}
use Rattle.race.specs.Racers.{AreRacers}
use Rattle.race.proofs.swept.sweep_of.Goals as goal

pub parties_of-requires-clause-racers : goal.parties_of-requires-clause-racers
parties_of-requires-clause-racers c =
    let s = c.args.scene.now in
    subst (λ (n : ℕ). AreRacers s.system.now s.play.now n c.args.racers.hosts.items) (sym c.servers-count.ensures)
    c.requires.racers.hosts
