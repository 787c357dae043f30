use Rattle.std.proofs.Common.{drop, ◌≡◌}
use Rattle.slot_check.specs.Batch.{takeover_broken_in}
use Rattle.slot_check.specs.Names.{names_in}
use Rattle.slot_check.proofs.batch.takeover_broken.Given as goal

abbrev pub invariant-loop-place : goal.invariant-loop-place
invariant-loop-place l =
    takeover_broken_in l.config (names_in l.names) (drop l.place l.takeovers)
    ≡ takeover_broken_in l.config (names_in l.names) l.takeovers
