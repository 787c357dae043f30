-- What was added, and the shapes that are left.
use Rattle.std.proofs.Common.{◌≡◌, ◌++◌, drop}
use Rattle.std.specs.Prelude.{flat_map}
use Rattle.picture_svg.proofs.spans.push_each.Given as goal

abbrev pub invariant-loop-shape : goal.invariant-loop-shape
invariant-loop-shape g l =
    l.initial.text.items ++ flat_map (g.D.Laned.svg l.layout) l.shapes
    ≡ l.text.items ++ flat_map (g.D.Laned.svg l.layout) (drop l.shape-index l.shapes)
