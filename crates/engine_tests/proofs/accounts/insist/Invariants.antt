use Rattle.meet_lock.specs.Passes.{IsSame}
use Rattle.engine_tests.proofs.accounts.insist.Given as goal

abbrev pub invariant-loop : goal.invariant-loop
invariant-loop l = IsSame l.fn.pass l.pass
