use Rattle.driver_testing.specs.Hosts.{IsTestHost}
use Rattle.driver_cas.specs.Starts.{IsUntouched}
use Rattle.driver_testing.specs.Calls.{KeepsCalls}
use Rattle.driver_testing.proofs.ask.hears.Given as goal

abbrev pub invariant-loop : goal.invariant-loop
invariant-loop g l = IsTestHost l.system l.host × KeepsCalls l.fn.host l.host
    × IsUntouched l.fn.host.driver l.host.driver
