use Rattle.lock_testing.specs.Callers.{IsCrewOf}
use Rattle.refusal_runs.proofs.works.make_each.Given as goal

abbrev pub invariant-loop-step : goal.invariant-loop-step
invariant-loop-step g l = IsCrewOf l.system l.crew
