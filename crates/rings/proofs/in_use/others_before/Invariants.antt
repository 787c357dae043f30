use Rattle.std.proofs.Common.{false, length, take, ◌-◌, ◌≡◌, ◌≤◌}
use Rattle.rings.specs.Used.{is_used}
use Rattle.rings.proofs.in_use.others_before.Given as goal

abbrev pub invariant-loop-from : goal.invariant-loop-from
invariant-loop-from l = (l.from ≤ length l.cids) × (is_used l.cid (take l.from l.cids) ≡ false)

abbrev pub decreases-loop-from : goal.decreases-loop-from
decreases-loop-from l = length l.cids - l.from
