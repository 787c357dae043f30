-- How many entries a verdict takes.
use Rattle.std.proofs.Common.{None, Option, Some, arith, refl, ◌≡◌, ◌≤◌}
use Rattle.nvme_model.specs.Verdict.{of_command, taken_entries}
use Rattle.nvme_model.specs.declared.status.Status.{Status}
use Rattle.nvme_model.specs.declared.status.Verdict.{Verdict}

-- a verdict takes what waits
pub one_taken : (o : Option Status) → taken_entries (of_command o) ≡ 1
one_taken None = refl
one_taken (Some s) = refl

pub taken_two : (v : Verdict) → taken_entries v ≤ 2
taken_two Verdict.Single = omega arith
taken_two (Verdict.SingleFailed s) = omega arith
taken_two Verdict.Pair = omega arith
taken_two (Verdict.PairFailed s r) = omega arith
