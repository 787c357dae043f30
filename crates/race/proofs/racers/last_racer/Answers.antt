use Rattle.std.proofs.Common.{arith, ℕ, ◌+◌, ◌≡◌}
use Rattle.meet_lock.specs.Passes.{number}
use Rattle.race.specs.Racers.{IsRacer, racer_pass}
use Rattle.race.specs.declared.racers.Racer.{Racer}
use Rattle.race.proofs.Each.{each_last, each_rest}
use Rattle.race.proofs.racers.last_racer.Goals as goal

pub returns-clause-rest : goal.returns-clause-rest
returns-clause-rest c =
    let servers = c.args._servers in
    each_rest (λ (k : ℕ) (r : Racer). (number (racer_pass r) ≡ servers + k + 1)
    × IsRacer c.args._system.now c.args._play.now servers r) c.args.racers.now.items c.pop.new.self.items c.pop.result
    c.pop.ensures.items c.requires.racers

pub returns-clause-last : goal.returns-clause-last
returns-clause-last c =
    let servers = c.args._servers in
    (each_last (λ (k : ℕ) (r : Racer). (number (racer_pass r) ≡ servers + k + 1)
    × IsRacer c.args._system.now c.args._play.now servers r) c.args.racers.now.items c.pop.new.self.items
    c.unwrap.result (rw c.unwrap.ensures at c.pop.ensures.items) c.requires.racers).1

pub returns-clause-number : goal.returns-clause-number
returns-clause-number c =
    let servers = c.args._servers in
    let at = (each_last (λ (k : ℕ) (r : Racer). (number (racer_pass r) ≡ servers + k + 1)
    × IsRacer c.args._system.now c.args._play.now servers r) c.args.racers.now.items c.pop.new.self.items
    c.unwrap.result (rw c.unwrap.ensures at c.pop.ensures.items) c.requires.racers).0 in
    omega (arith, at, c.pop.new.self.ok.0)

pub returns-clause-over : goal.returns-clause-over
returns-clause-over c = λ over.
    each_last (λ (k : ℕ) (r : Racer). r.rounds.left ≡ 0) c.args.racers.now.items c.pop.new.self.items c.unwrap.result
    (rw c.unwrap.ensures at c.pop.ensures.items) over

pub returns-clause-rest_over : goal.returns-clause-rest_over
returns-clause-rest_over c = λ over.
    each_rest (λ (k : ℕ) (r : Racer). r.rounds.left ≡ 0) c.args.racers.now.items c.pop.new.self.items c.pop.result
    c.pop.ensures.items over
