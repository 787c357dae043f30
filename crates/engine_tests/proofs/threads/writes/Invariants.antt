use Rattle.meet_lock.specs.Passes.{IsPassOfLock}
use Rattle.engine_tests.proofs.threads.writes.Given as goal

abbrev pub invariant-loop-cid : goal.invariant-loop-cid
invariant-loop-cid l = IsPassOfLock l.shared l.pass
