use Rattle.driver_testing.specs.Hosts.{IsTestHost}
use Rattle.refusal_runs.proofs.calls.begins.Given as goal

abbrev pub invariant-loop : goal.invariant-loop
invariant-loop l = IsTestHost l._system l.host
