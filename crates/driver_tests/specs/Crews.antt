-- A fetcher and a worker.
use Rattle.shared_system.specs.Plain.{IsPlainCallerOf}
use Rattle.shared_system.specs.declared.plain.PlainCaller.{PlainCaller}
use Rattle.shared_system.specs.declared.plain.PlainSystem.{PlainSystem}

-- what both own is of what they share
pub record AreCrewOf (system : PlainSystem) (fetcher worker : PlainCaller) : Type 0 where
  pub fetcher_of : IsPlainCallerOf system fetcher
  pub worker_of : IsPlainCallerOf system worker
