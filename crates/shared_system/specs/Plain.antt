-- What contracts say of a system with one queue of each kind, and of its callers.
use Rattle.std.specs.Prelude.{All, Some, slice_get, true, ℕ, ◌+◌, ◌≡◌}
use Rattle.meet_lock.specs.Passes.{config_of, number, passes_of}
use Rattle.work_queue.specs.Duties.{is_only_fetch}
use Rattle.work_queue.specs.Engines as engine
use Rattle.work_queue.specs.QueuePasses as queue
use Rattle.work_queue.specs.declared.work.Work.{Work}
use Rattle.shared_system.specs.declared.plain.PlainCaller.{PlainCaller}
use Rattle.shared_system.specs.declared.plain.PlainCallers.{PlainCallers}
use Rattle.shared_system.specs.declared.plain.PlainSystem.{PlainSystem}

-- its passes are of what the system shares, whose configuration they know
abbrev pub IsPlainCallerOf : PlainSystem → PlainCaller → Type 0
IsPlainCallerOf system h =
    engine.IsPassOfEngine system.engine h.pass
    × queue.IsPlaceOf system.engine system.works h.works
    × queue.IsPlaceOf system.engine system.notices h.notices
    × (config_of h.pass ≡ system.config)

-- so are these, that nobody has yet
pub record ArePlainCallers (system : PlainSystem) (h : PlainCallers) : Type 0 where
  pub passes : All (engine.IsFreshPass system.engine system.config) h.passes.items
  pub works : All (queue.IsPlaceOf system.engine system.works) h.works.items
  pub notices : All (queue.IsPlaceOf system.engine system.notices) h.notices.items

-- these are the first of so many passes, numbered from 1 in order
abbrev pub AreNumbered : ℕ → PlainCallers → Type 0
AreNumbered n h = (k : ℕ) (p : engine.EnginePass) → slice_get h.passes.items k ≡ Some p
    → (number p ≡ k + 1) × (passes_of p ≡ n)

-- a Work of the system's engine
abbrev pub IsPlainWork : PlainSystem → Work → Type 0
IsPlainWork system w = engine.IsWorkOf system.engine w

-- one that may be pushed
abbrev pub IsFreshWork : PlainSystem → Work → Type 0
IsFreshWork system w = IsPlainWork system w × (is_only_fetch w.work.ticket (engine.its w) ≡ true)
