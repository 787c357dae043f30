-- What was added, and the rows that are left.
use Rattle.std.proofs.Common.{◌≡◌, ◌++◌, drop}
use Rattle.picture_svg.specs.LaneNames.{lanes_from, queue_names_svg}
use Rattle.picture_svg.proofs.lane_names.push_lanes.Given as goal

abbrev pub invariant-loop-i : goal.invariant-loop-i
invariant-loop-i l =
    l.initial.text.items ++ queue_names_svg l.scale l.tops l.name l.rows
    ≡ l.text.items ++ lanes_from l.scale l.tops l.name l.rows l.i (drop l.i l.rows)
