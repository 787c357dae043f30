use Rattle.driver_tests.specs.Crews.{AreCrewOf}
use Rattle.driver_tests.proofs.crews.crew_serves.Given as goal

abbrev pub invariant-loop : goal.invariant-loop
invariant-loop g l = AreCrewOf l.system l.crew.fetcher l.crew.worker
