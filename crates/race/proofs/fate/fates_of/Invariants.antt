use Rattle.std.proofs.Common.{vec_len, ◌≡◌, ◌≤◌}
use Rattle.std.specs.Prelude.{All}
use Rattle.race.specs.Fates.{IsFateIn}
use Rattle.std.specs.Vec.{vec_capacity}
use Rattle.race.proofs.fate.fates_of.Given as goal

abbrev pub invariant-loop-k : goal.invariant-loop-k
invariant-loop-k l =
    (vec_len l.fates ≡ l.k) × (l.race.hosts ≤ vec_capacity l.fates) × All (IsFateIn l.race) l.fates.items
