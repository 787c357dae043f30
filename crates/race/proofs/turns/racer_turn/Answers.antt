use Rattle.std.proofs.Common.{arith, vec_len, ℕ, ◌+◌, ◌∙◌, ◌≡◌}
use Rattle.std.proofs.lemmas.Option.{slice_get_read}
use Rattle.meet_lock.specs.Passes.{number}
use Rattle.race.specs.Racers.{IsRacer, racer_pass}
use Rattle.race.specs.declared.racers.Racer.{Racer}
use Rattle.race.proofs.Each.{both_on, each_set}
use Rattle.race.proofs.turns.racer_turn.Goals as goal

pub host_once-requires : goal.host_once-requires
host_once-requires g c =
    let long = c.args.racers.now.ok.0 in
    (c.requires.racers c.args.place c.index_mut.result.now (slice_get_read c.args.racers.now.items
    (vec_len c.args.racers.now) c.args.place c.index_mut.result.now (omega (arith, long)) c.requires.place
    c.index_mut.ensures.value)).1

pub returns-clause-racers : goal.returns-clause-racers
returns-clause-racers g c =
    let long = c.args.racers.now.ok.0 in
    let was = c.requires.racers c.args.place c.index_mut.result.now (slice_get_read c.args.racers.now.items
    (vec_len c.args.racers.now) c.args.place c.index_mut.result.now (omega (arith, long)) c.requires.place
    c.index_mut.ensures.value) in
    both_on c.host_once.result c.host_once.ensures.number c.host_once.ensures.racer (λ same is.
    each_set (λ (k : ℕ) (r : Racer). (number (racer_pass r) ≡ c.args._servers + k + 1)
    × IsRacer c.args.system.now c.args._play.now c.args._servers r) c.args.racers.now.items c.args.place
    c.host_once.new.racer c.requires.racers (same ∙ was.0, is))
