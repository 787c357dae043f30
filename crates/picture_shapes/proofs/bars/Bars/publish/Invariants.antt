-- What was published, and the entries that are left.
use Rattle.std.proofs.Common.{◌≡◌, drop}
use Rattle.picture_shapes.specs.Bars.{bars_published}
use Rattle.picture_shapes.proofs.bars.Bars.publish.Given as goal

abbrev pub invariant-loop-item : goal.invariant-loop-item
invariant-loop-item l =
    bars_published l.config l.place l.line.queue l.items l.initial.self
    ≡ bars_published l.config l.place l.line.queue (drop l.item-index l.items) l.self
