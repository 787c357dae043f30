use Rattle.std.proofs.Common.{[], drop, take, ◌≡◌}
use Rattle.slot_check.specs.Batch.{release_broken_in}
use Rattle.slot_check.specs.Names.{names_in}
use Rattle.slot_check.specs.Takeovers.{takeovers_kept}
use Rattle.slot_check.proofs.batch.release_broken.Given as goal

abbrev pub invariant-loop-place : goal.invariant-loop-place
invariant-loop-place l =
    release_broken_in l.config (names_in l.names) (takeovers_kept l.takeovers).taken (take l.place l.of)
    (drop l.place l.of)
    ≡ release_broken_in l.config (names_in l.names) (takeovers_kept l.takeovers).taken [] l.of
