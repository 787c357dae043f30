use Rattle.driver_cas.specs.Drivers.{IsCallOf}
use Rattle.driver_testing.specs.Hosts.{IsTestHost}
use Rattle.refusal_runs.proofs.calls.answers.Given as goal

abbrev pub invariant-loop : goal.invariant-loop
invariant-loop l = IsTestHost l._system l.host × IsCallOf l.host.driver l.next
