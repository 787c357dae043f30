use Rattle.std.proofs.Common.{arith, subst, sym, ℕ, ◌+◌, ◌≡◌}
use Rattle.plain_lemmas.proofs.Lists.{snoc_each}
use Rattle.meet_lock.specs.Passes.{number}
use Rattle.race.specs.Racers.{AreRacers, IsRacer, racer_pass}
use Rattle.race.specs.declared.racers.Racer.{Racer}
use Rattle.race.proofs.racers.put_racer.Goals as goal

pub returns-clause-racers : goal.returns-clause-racers
returns-clause-racers c =
    let system = c.args._system.now in
    let play = c.args._play.now in
    let servers = c.args._servers in
    let is = c.requires.number in
    let long = c.args.racers.now.ok.0 in
    subst (AreRacers system play servers) (sym c.push_reserved.ensures.items)
    (snoc_each (λ (k : ℕ) (r : Racer). (number (racer_pass r) ≡ servers + k + 1) × IsRacer system play servers r)
    c.args.racers.now.items c.args.racer c.requires.racers (omega (arith, is, long), c.requires.racer))
