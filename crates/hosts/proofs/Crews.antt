-- The passes of a crew.
use Rattle.std.proofs.Common.{All, Err, IfErr, IfOk, List, Ok, Result, reverse, subst, sym, ◌++◌, ◌≡◌}
use Rattle.std.specs.List.{AllZip}
use Rattle.hosts.specs.Crews.{IsFetcherBack, IsWorkerBack}
use Rattle.hosts.specs.Returning.{AreParted, GaveBack}
use Rattle.shared_system.specs.declared.system.CallerPasses.{CallerPasses}
use Rattle.hosts.specs.declared.starting.FetcherBack.{FetcherBack}
use Rattle.hosts.specs.declared.starting.WorkerBack.{WorkerBack}
use Rattle.shared_system.specs.declared.system.System.{System}
use Rattle.shared_system.specs.declared.system.WorkerPasses.{WorkerPasses}
use Rattle.shared_system.specs.Callers.{Continues, IsWorkerOf, WorkerContinues}
use Rattle.hosts.proofs.Ends.{all_back, zip_same}
use Rattle.shared_system.proofs.Going.{goes_same}

module _ {G : Type 0} where
  pub worker_same : (system : System G) (w : WorkerPasses) → IsWorkerOf system w → WorkerContinues system w w
  worker_same system w of = (goes_same system w.caller of.caller, of)

  -- each worker's passes as they were
  pub workers_same : (system : System G) (ws : List WorkerPasses) → All (IsWorkerOf system) ws
      → AllZip (WorkerContinues system) ws ws
  workers_same system ws all = zip_same (WorkerContinues system) (IsWorkerOf system) (worker_same system) ws all

  -- the fetcher's passes, from its thread or where none could be had
  pub fetcher_back : {T E : Type 0} (system : System G) (caller back : CallerPasses) (ends : Result (Unit {0}) E)
      (fetching : Result T CallerPasses) (promise : T → FetcherBack G)
      → IfOk fetching (λ h. GaveBack (λ (p : FetcherBack G) (r : CallerPasses × Result (Unit {0}) E).
      Continues p.system.value p.caller.value r.0) ends (promise h) back)
      → IfErr fetching (λ h. back ≡ h) → IfOk fetching (λ h. IsFetcherBack system caller (promise h))
      → IfErr fetching (Continues system caller) → Continues system caller back
  fetcher_back system caller back ends (Ok h) promise gave same is went =
      subst (λ (z : System G × CallerPasses). Continues z.0 z.1 back) (λ i. (is.0 i, is.1 i)) gave.1
  fetcher_back system caller back ends (Err h) promise gave same is went =
      subst (Continues system caller) (sym same) went

  -- the workers' passes
  pub workers_back : {E : Type 0} (system : System G) (ends : Result (Unit {0}) E) (old new back : List WorkerPasses)
      (ps : List (WorkerBack G)) → AreParted (WorkerContinues system) (IsWorkerBack system) old new ps
      → AllZip (GaveBack (λ (p : WorkerBack G) (r : WorkerPasses × Result (Unit {0}) E).
      WorkerContinues p.system.value p.caller.value r.0) ends) (reverse ps) back
      → AllZip (WorkerContinues system) old (new ++ back)
  workers_back {E} system ends old new back ps parted gave =
      all_back (WorkerContinues system) (IsWorkerBack system)
      (λ (p : WorkerBack G) (r : WorkerPasses
      × Result (Unit {0}) E). WorkerContinues p.system.value p.caller.value r.0) ends old
      new back ps parted gave
      (λ h b p r is k. subst (λ (z : System G × WorkerPasses). WorkerContinues z.0 z.1 b) (λ i. (is.0 i, is.1 i)) k)
