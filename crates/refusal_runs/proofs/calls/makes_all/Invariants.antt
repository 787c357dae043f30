use Rattle.driver_testing.specs.Hosts.{IsTestHost}
use Rattle.shared_system.specs.Plain.{IsPlainCallerOf}
use Rattle.refusal_runs.proofs.calls.makes_all.Given as goal

abbrev pub invariant-loop-ask : goal.invariant-loop-ask
invariant-loop-ask g l = IsPlainCallerOf l.system l.server × IsTestHost l.system l.host
