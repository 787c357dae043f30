-- What contracts say of the threads of a crew.
use Rattle.std.specs.Prelude.{◌≡◌}
use Rattle.shared_system.specs.declared.system.System.{System}
use Rattle.shared_system.specs.declared.system.CallerPasses.{CallerPasses}
use Rattle.shared_system.specs.declared.system.WorkerPasses.{WorkerPasses}
use Rattle.hosts.specs.declared.starting.FetcherBack.{FetcherBack}
use Rattle.hosts.specs.declared.starting.WorkerBack.{WorkerBack}

module _ {G : Type 0} where
  -- the promise is of this system, and of these passes of a fetcher
  abbrev pub IsFetcherBack : System G → CallerPasses → FetcherBack G → Type 0
  IsFetcherBack system caller p = (p.system.value ≡ system) × (p.caller.value ≡ caller)

  -- or of a worker
  abbrev pub IsWorkerBack : System G → WorkerPasses → WorkerBack G → Type 0
  IsWorkerBack system own p = (p.system.value ≡ system) × (p.caller.value ≡ own)
