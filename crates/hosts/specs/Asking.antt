-- What came of what a loop asked for.
use Rattle.std.specs.Prelude.{ℕ, ◌∷◌, ◌≡◌}
use Rattle.nvme_model.specs.History.{Past}
use Rattle.nvme_model.specs.Passes.{entries}
use Rattle.nvme_model.specs.declared.entry.Entry.{Entry}
use Rattle.meet_lock.specs.Passes.{config_of, seen}
use Rattle.work_queue.specs.Posted.{IsAnswerPosted}
use Rattle.shared_system.specs.Callers.{IsPushableWork}
use Rattle.shared_system.specs.declared.system.CallerPasses.{CallerPasses}
use Rattle.shared_system.specs.declared.system.System.{System}
use Rattle.hosts.specs.declared.fetching.Fetched.{Fetched}
use Rattle.hosts.specs.declared.attempting.TriedTask.{TriedTask}

-- no Work came of it
abbrev pub IsNoWork : Fetched → Type 0
IsNoWork (Fetched.Work w) = ⊥
IsNoWork _ = Unit {0}

-- the ticket has one more entry where the task was made, and else those that it had
abbrev pub HasEntries : Past → Past → TriedTask → Type 0
HasEntries before after (TriedTask.Made a) = (e : Entry) × (after ≡ e ∷ before)
HasEntries before after _ = after ≡ before

-- the task wasn't made
abbrev pub IsNotMade : TriedTask → Type 0
IsNotMade (TriedTask.Made a) = ⊥
IsNotMade _ = Unit {0}

module _ {G : Type 0} where
  abbrev pub IsFetchedReady : System G → Fetched → Type 0
  IsFetchedReady system (Fetched.Work w) = IsPushableWork system w
  IsFetchedReady system _ = Unit {0}

-- what was posted by a task is posted to the completion queue that this submission queue uses
abbrev pub IsTaskTold : CallerPasses → ℕ → TriedTask → Type 0
IsTaskTold h q (TriedTask.Made a) = IsAnswerPosted (config_of h.pass) (entries (seen h.pass)) q a
IsTaskTold h q _ = Unit {0}
