use Rattle.lock_testing.specs.Callers.{IsCrewOf}
use Rattle.engine_tests.proofs.crew.hears.Given as goal

abbrev pub invariant-loop : goal.invariant-loop
invariant-loop g l = IsCrewOf l.system l.crew
