use Rattle.std.proofs.Common.{ℕ, get_or, ◌<◌, ◌^◌}
use Rattle.refutation.proofs.refutation.commands_fit.Given as goal

abbrev pub invariant-loop-queue : goal.invariant-loop-queue
invariant-loop-queue l =
    (k : ℕ) → k < l.queue-index
    → ((get_or l.commands k (0, 0)).0 < 2 ^ 16) × ((get_or l.commands k (0, 0)).1 < 2 ^ 64)
