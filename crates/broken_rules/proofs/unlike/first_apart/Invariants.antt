use Rattle.std.proofs.Common.{◌≡◌, ◌≤◌, ◌-◌, ◌+◌, drop, length}
use Rattle.broken_rules.specs.Unlike.{first_apart}
use Rattle.broken_rules.proofs.unlike.first_apart.Given as goal

abbrev pub invariant-loop-count : goal.invariant-loop-count
invariant-loop-count l =
    record {
      within : (l.count ≤ length l.found) × (l.count ≤ length l.due);
      same : first_apart l.found l.due ≡ l.count + first_apart (drop l.count l.found) (drop l.count l.due);
    }

abbrev pub decreases-loop-count : goal.decreases-loop-count
decreases-loop-count l = length l.found - l.count
