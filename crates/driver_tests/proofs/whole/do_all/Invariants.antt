use Rattle.driver_testing.specs.Claimants.{IsClaimant}
use Rattle.driver_tests.specs.Crews.{AreCrewOf}
use Rattle.driver_tests.proofs.whole.do_all.Given as goal

abbrev pub invariant-loop-turn : goal.invariant-loop-turn
invariant-loop-turn g l =
    AreCrewOf l.system l.crew.fetcher l.crew.worker × IsClaimant l.system l.slots l.one
    × IsClaimant l.system l.slots l.two
