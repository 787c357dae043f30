use Rattle.engine_tests.specs.Threes.{AreThree}
use Rattle.engine_tests.proofs.passes.run_by.Given as goal

abbrev pub invariant-loop-step : goal.invariant-loop-step
invariant-loop-step l = AreThree l.shared l.passes
