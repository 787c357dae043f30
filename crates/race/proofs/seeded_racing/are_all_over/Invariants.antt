use Rattle.std.proofs.Common.{Some, slice_get, ℕ, ◌<◌, ◌≡◌}
use Rattle.race.specs.declared.racers.Racer.{Racer}
use Rattle.race.proofs.seeded_racing.are_all_over.Given as goal

abbrev pub invariant-loop-racer : goal.invariant-loop-racer
invariant-loop-racer l = (k : ℕ) (r : Racer) → k < l.racer-index → slice_get l.racers.items k ≡ Some r
    → r.rounds.left ≡ 0
