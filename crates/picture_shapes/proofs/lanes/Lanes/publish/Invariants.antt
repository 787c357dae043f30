-- What was published, and the entries that are left.
use Rattle.std.proofs.Common.{◌≡◌, drop}
use Rattle.picture_shapes.specs.Lanes.{lanes_published}
use Rattle.picture_shapes.proofs.lanes.Lanes.publish.Given as goal

abbrev pub invariant-loop-item : goal.invariant-loop-item
invariant-loop-item l =
    lanes_published l.from l.place l.line.queue l.items l.initial.self
    ≡ lanes_published l.from l.place l.line.queue (drop l.item-index l.items) l.self
