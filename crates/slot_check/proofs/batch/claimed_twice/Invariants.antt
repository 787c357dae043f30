use Rattle.std.proofs.Common.{drop, ◌≡◌}
use Rattle.slot_check.specs.Batch.{claimed_twice_in}
use Rattle.slot_check.specs.Names.{names_in}
use Rattle.slot_check.proofs.batch.claimed_twice.Given as goal

abbrev pub invariant-loop-place : goal.invariant-loop-place
invariant-loop-place l =
    claimed_twice_in (names_in l.names) (drop l.place l.of) ≡ claimed_twice_in (names_in l.names) l.of
