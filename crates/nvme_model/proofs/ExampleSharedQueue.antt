-- Two submission queues on one completion queue.
use Rattle.std.specs.Prelude.{◌≡◌, refl, ℕ, true, Some, List, [], ◌∷◌}
use Rattle.nvme_model.specs.declared.config.ConfigNumbers.{ConfigNumbers}
use Rattle.nvme_model.specs.History.{Past}
use Rattle.nvme_model.specs.Refusals.{refusal}
use Rattle.nvme_model.specs.Legal.{legal}
use Rattle.nvme_model.specs.Steps.{run, settle}
use Rattle.nvme_model.specs.Examples.{submit, one}
use Rattle.nvme_model.specs.declared.step.Step.{Step}
use Rattle.nvme_model.specs.declared.refusal.Why.{Why}
use Rattle.nvme_model.proofs.ExampleScripts.{posted_ends}

-- a completion queue of m slots for two submission queues
abbrev shared : ℕ → ConfigNumbers
shared m = record {
  blocks = 8;
  atomic = record { awun = 1; acwu = 1; nabsn = 0; nabo = 0 };
  pairs = 2;
  sq_size = 4;
  cq_size = m;
  jobs = 8;
  cqs = 1;
}

-- bytes 8 to 15 of a completion
abbrev ends : ℕ → ℕ → ℕ → ℕ → List ℕ
ends sqhd sqid cid low = sqhd ∷ 0 ∷ sqid ∷ 0 ∷ cid ∷ 0 ∷ low ∷ 0 ∷ []

abbrev both_early : Past
both_early =
    run (shared 4) []
    (Step.Publish 1 (submit 1 0 1 0 0 (one 0xa1) ∷ []) ∷ Step.Publish 2 (submit 1 0 1 1 0 (one 0xb2) ∷ [])
    ∷ Step.Fetch 1 ∷ Step.Fetch 2 ∷ [])

abbrev both : Past
both = run (shared 4) (settle 40 (shared 4) both_early) (Step.Reap 1 ∷ Step.Reap 1 ∷ [])

pub both_posted : posted_ends (shared 4) both 1 ≡ ends 1 1 1 1 ∷ ends 1 2 1 1 ∷ []
both_posted = refl

pub no_second_queue : refusal (shared 4) both (Step.Reap 2) ≡ Some Why.NoQueue
no_second_queue = refl

pub both_legal : legal (shared 4) both ≡ true
both_legal = refl

-- a completion queue that holds one completion: its phase goes by its own count
abbrev full_early : Past
full_early =
    run (shared 2) []
    (Step.Publish 1 (submit 1 0 1 0 0 (one 0xa1) ∷ submit 1 0 2 2 0 (one 0xa1) ∷ [])
    ∷ Step.Publish 2 (submit 1 0 1 1 0 (one 0xa1) ∷ []) ∷ Step.Fetch 1 ∷ Step.Fetch 2 ∷ Step.Fetch 1
    ∷ Step.Grant 1 ∷ Step.Grant 2 ∷ Step.Grant 3 ∷ Step.Block 1 ∷ Step.Block 2 ∷ Step.Block 3 ∷ Step.Post 1 ∷ [])

pub full_refuses : refusal (shared 2) full_early (Step.Post 2) ≡ Some Why.CqFull
full_refuses = refl

abbrev full : Past
full = run (shared 2) full_early (Step.Reap 1 ∷ Step.Post 2 ∷ Step.Reap 1 ∷ Step.Post 3 ∷ Step.Reap 1 ∷ [])

pub full_posted : posted_ends (shared 2) full 1 ≡ ends 2 1 1 1 ∷ ends 1 2 1 1 ∷ ends 2 1 2 0 ∷ []
full_posted = refl

pub full_legal : legal (shared 2) full ≡ true
full_legal = refl

-- the first completion of the second pass is for the other submission queue
abbrev other_last : Past
other_last =
    run (shared 2) []
    (Step.Publish 1 (submit 0 0 1 0 0 [] ∷ submit 0 0 2 0 0 [] ∷ []) ∷ Step.Publish 2 (submit 0 0 1 0 0 [] ∷ [])
    ∷ Step.Fetch 1 ∷ Step.Fetch 1 ∷ Step.Fetch 2
    ∷ Step.Post 1 ∷ Step.Reap 1 ∷ Step.Post 2 ∷ Step.Reap 1 ∷ Step.Post 3 ∷ Step.Reap 1 ∷ [])

pub other_last_posted : posted_ends (shared 2) other_last 1 ≡ ends 2 1 1 1 ∷ ends 2 1 2 1 ∷ ends 1 2 1 0 ∷ []
other_last_posted = refl
