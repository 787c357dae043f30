use Rattle.driver_testing.specs.Claimants.{IsClaimant}
use Rattle.driver_tests.specs.Crews.{AreCrewOf}
use Rattle.driver_tests.proofs.whole.comes.Given as goal

abbrev pub invariant-loop : goal.invariant-loop
invariant-loop g l = AreCrewOf l.system l.crew.fetcher l.crew.worker
    × IsClaimant l.system l.slots l.claimant
