use Rattle.std.proofs.Common.{◌<◌, slice_index_or, ℕ}
use Rattle.driver_cas.specs.Turns.{HasTooFew}
use Rattle.driver_cas.proofs.driver.Driver.has_free.Given as goal

-- none of the queues so far has enough
abbrev pub invariant-loop-queue : goal.invariant-loop-queue
invariant-loop-queue g l = (i x : ℕ) → i < l.queue-index → HasTooFew l.self.cids l.op (slice_index_or l.queue-items i x)
