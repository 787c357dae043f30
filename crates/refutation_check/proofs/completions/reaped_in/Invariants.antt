use Rattle.std.proofs.Common.{take, ◌≡◌, ◌≤◌}
use Rattle.std.specs.Prelude.{reverse}
use Rattle.refutation.specs.Lines.{reaped_in}
use Rattle.refutation_check.proofs.completions.reaped_in.Given as goal

abbrev pub invariant-loop-line : goal.invariant-loop-line
invariant-loop-line l =
    (l.count ≡ reaped_in (reverse (take l.line-index l.trace)) l.queue) × (l.count ≤ l.line-index)
