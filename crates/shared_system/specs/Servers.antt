-- A pass that serves: it makes no step of a host.
use Rattle.std.specs.Prelude.{Bool, false, not, true, ℕ, ◌==◌, ◌||◌, ◌≡◌}
use Rattle.std.specs.List.{list_all}
use Rattle.nvme_model.specs.Passes.{SharedPast}
use Rattle.nvme_model.specs.declared.entry.Entry.{Entry}
use Rattle.nvme_model.specs.declared.step.Step.{Step}
use Rattle.meet_lock.specs.Lock.{AreOfPasses}
use Rattle.meet_lock.specs.Passes.{number, passes_of, seen}
use Rattle.work_queue.specs.Engines.{EnginePass}

-- the entry is a Fetch, a Grant, a Block or a Post
abbrev pub is_serving : Entry → Bool
is_serving (Entry.Publish p) = false
is_serving (Entry.Reap r) = false
is_serving _ = true

-- each entry that pass p made is a Fetch, a Grant, a Block or a Post
abbrev pub serves : ℕ → SharedPast → Bool
serves p shared = list_all (λ m. not (m.0 == p) || is_serving m.1) shared

-- the step is one of those
abbrev pub is_served : Step → Bool
is_served (Step.Publish q batch) = false
is_served (Step.Reap q) = false
is_served _ = true

-- What the pass has seen was made by passes alone, and what it made itself serves.
pub record IsServing (p : EnginePass) : Type 0 where
  pub of_passes : AreOfPasses (passes_of p) (seen p)
  pub serves : serves (number p) (seen p) ≡ true
