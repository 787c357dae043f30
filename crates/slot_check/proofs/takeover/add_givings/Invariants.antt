use Rattle.std.proofs.Common.{drop, map, ◌++◌, ◌≡◌}
use Rattle.host_laws.specs.Takeovers.{giving}
use Rattle.slot_check.proofs.takeover.add_givings.Given as goal

abbrev pub invariant-loop-place : goal.invariant-loop-place
invariant-loop-place l =
    l.moves.items ++ map giving (drop l.place l.takeovers) ≡ l.fn.moves.items ++ map giving l.takeovers
