use Rattle.lock_testing.specs.Callers.{IsCrewOf}
use Rattle.engine_tests.proofs.crew.make_all.Given as goal

abbrev pub invariant-loop-step : goal.invariant-loop-step
invariant-loop-step g l = IsCrewOf l.system l.crew
