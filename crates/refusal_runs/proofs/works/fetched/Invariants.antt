use Rattle.lock_testing.specs.Callers.{IsCrewOf}
use Rattle.refusal_runs.proofs.works.fetched.Given as goal

abbrev pub invariant-loop : goal.invariant-loop
invariant-loop g l = IsCrewOf l.system l.crew
