use Rattle.std.proofs.Common.{arith, vec_len, ℕ, ◌+◌, ◌∙◌, ◌≡◌}
use Rattle.std.proofs.lemmas.Option.{slice_get_read}
use Rattle.meet_lock.specs.Passes.{number}
use Rattle.race.specs.Racers.{IsRacer, racer_pass}
use Rattle.race.specs.declared.racers.Racer.{Racer}
use Rattle.race.proofs.Each.{each_set}
use Rattle.race.proofs.turns.busy_racer_turn.Goals as goal

pub busy_once-requires : goal.busy_once-requires
busy_once-requires g c =
    let long = c.args.racers.now.ok.0 in
    (c.requires.racers c.args.place c.index_mut.result.now (slice_get_read c.args.racers.now.items
    (vec_len c.args.racers.now) c.args.place c.index_mut.result.now (omega (arith, long)) c.requires.place
    c.index_mut.ensures.value)).1

pub returns-clause-racers : goal.returns-clause-racers
returns-clause-racers g c =
    let long = c.args.racers.now.ok.0 in
    let was = c.requires.racers c.args.place c.index_mut.result.now (slice_get_read c.args.racers.now.items
    (vec_len c.args.racers.now) c.args.place c.index_mut.result.now (omega (arith, long)) c.requires.place
    c.index_mut.ensures.value) in
    each_set (λ (k : ℕ) (r : Racer). (number (racer_pass r) ≡ c.args._servers + k + 1)
    × IsRacer c.args.system.now c.args._play.now c.args._servers r) c.args.racers.now.items c.args.place
    c.busy_once.new.racer c.requires.racers (c.busy_once.ensures.number ∙ was.0, c.busy_once.ensures.racer)
