-- What was added, and the shapes that are left.
use Rattle.std.proofs.Common.{◌≡◌, ◌++◌, drop}
use Rattle.std.specs.Prelude.{flat_map}
use Rattle.picture_svg.proofs.drawn.push_each.Given as goal

abbrev pub invariant-loop-shape : goal.invariant-loop-shape
invariant-loop-shape g l =
    l.initial.text.items ++ flat_map (g.D.Drawn.svg l.scale) l.shapes
    ≡ l.text.items ++ flat_map (g.D.Drawn.svg l.scale) (drop l.shape-index l.shapes)
