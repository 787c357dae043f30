use Rattle.std.proofs.Common.{drop, ◌+◌, ◌≡◌}
use Rattle.slot_check.specs.Broken.{write_alone}
use Rattle.slot_check.proofs.batch.write_alone.Given as goal

abbrev pub invariant-loop-place : goal.invariant-loop-place
invariant-loop-place l =
    write_alone l.slots l.queue (l.first + l.place) (drop l.place l.batch) l.of
    ≡ write_alone l.slots l.queue l.first l.batch l.of
