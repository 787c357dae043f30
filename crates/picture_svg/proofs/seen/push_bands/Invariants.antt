-- What was added, and the heads that are left.
use Rattle.std.proofs.Common.{◌≡◌, ◌++◌, drop}
use Rattle.std.specs.Prelude.{flat_map}
use Rattle.picture_svg.specs.Seen.{seen_head}
use Rattle.picture_svg.proofs.seen.push_bands.Given as goal

abbrev pub invariant-loop-head : goal.invariant-loop-head
invariant-loop-head l =
    l.initial.text.items ++ flat_map (seen_head l.scale) l.heads
    ≡ l.text.items ++ flat_map (seen_head l.scale) (drop l.head-index l.heads)
