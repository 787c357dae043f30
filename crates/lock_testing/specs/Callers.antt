-- What contracts say of three callers, and of what an opening gives.
use Rattle.std.specs.Prelude.{All}
use Rattle.work_queue.specs.declared.engine.Opened.{Opened}
use Rattle.work_queue.specs.declared.engine.Opened.TheVariants as opened
use Rattle.shared_system.specs.Plain.{IsFreshWork, IsPlainCallerOf, IsPlainWork}
use Rattle.shared_system.specs.declared.plain.PlainSystem.{PlainSystem}
use Rattle.lock_testing.specs.declared.crew.ThreeCallers.{ThreeCallers}

-- their passes and their Works are of what the system shares
pub record IsCrewOf (system : PlainSystem) (c : ThreeCallers) : Type 0 where
  pub host : IsPlainCallerOf system c.host
  pub fetcher : IsPlainCallerOf system c.fetcher
  pub worker : IsPlainCallerOf system c.worker
  pub works : All (IsPlainWork system) c.works.items

-- a Fetch of work gave a fresh Work; of any other opening nothing is said
abbrev pub IsFreshOpening : PlainSystem → Opened → Type 0
IsFreshOpening system (opened.Fetched w) = IsFreshWork system w
IsFreshOpening system _ = Unit {0}
