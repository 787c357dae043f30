use Rattle.driver_testing.specs.Hosts.{IsTestHost}
use Rattle.shared_system.specs.Plain.{IsPlainCallerOf}
use Rattle.driver_tests.proofs.large.all_served.Given as goal

abbrev pub invariant-loop-row : goal.invariant-loop-row
invariant-loop-row g l = IsPlainCallerOf l.system l.server × IsTestHost l.system l.host
