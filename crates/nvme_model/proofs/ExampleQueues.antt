-- Rings that wrap, phases, a full completion queue and CIDs in use.
use Rattle.std.specs.Prelude.{◌≡◌, refl, true, Some, List, [], ◌∷◌, reverse}
use Rattle.nvme_model.specs.declared.config.ConfigNumbers.{ConfigNumbers}
use Rattle.nvme_model.specs.History.{Past}
use Rattle.nvme_model.specs.Refusals.{refusal}
use Rattle.nvme_model.specs.Legal.{legal}
use Rattle.nvme_model.specs.Steps.{run, settle}
use Rattle.nvme_model.specs.Examples.{default, submit, one, one_write_by, pair_on_3}
use Rattle.nvme_model.specs.declared.step.Step.{Step}
use Rattle.nvme_model.specs.declared.refusal.Why.{Why}
use Rattle.nvme_model.proofs.ExampleScripts.{posted_ends, served, cqe_end, three_writes}

-- one Write, by its steps
abbrev one_write_steps : List Step
one_write_steps =
    Step.Publish 1 (submit 1 0 1 3 0 (one 0xa1) ∷ []) ∷ Step.Fetch 1 ∷ Step.Grant 1 ∷ Step.Block 1 ∷ Step.Post 1
    ∷ Step.Reap 1 ∷ []

-- one Write: the run is the worked history
pub one_write_runs : run default [] one_write_steps ≡ reverse (one_write_by true)
one_write_runs = refl

-- three Writes, then a pair in the last slot and the first
abbrev wrapped_early : Past
wrapped_early = run default (served default 3 three_writes)
    (Step.Reap 1 ∷ Step.Reap 1 ∷ Step.Reap 1 ∷ Step.Publish 1 (pair_on_3 7 8 0 0xa1) ∷ Step.Fetch 1 ∷ [])

abbrev wrapped_end : Past
wrapped_end = settle 40 default wrapped_early

pub wrapped_posted : posted_ends default wrapped_end 1 ≡ cqe_end 3 1 1 0 ∷ cqe_end 3 2 1 0 ∷ cqe_end 3 3 1 0
    ∷ cqe_end 1 7 1 0 ∷ cqe_end 1 8 0 0 ∷ []
wrapped_posted = refl

pub wrapped_legal : legal default wrapped_end ≡ true
wrapped_legal = refl

-- a completion queue that holds one completion
abbrev two_slots : ConfigNumbers
two_slots = record {
  blocks = 8;
  atomic = record { awun = 1; acwu = 1; nabsn = 0; nabo = 0 };
  pairs = 2;
  sq_size = 4;
  cq_size = 2;
  jobs = 8;
  cqs = 2;
}

abbrev full_early : Past
full_early = run two_slots []
    (Step.Publish 1 three_writes ∷ Step.Fetch 1 ∷ Step.Fetch 1 ∷ Step.Fetch 1 ∷ Step.Grant 1 ∷ Step.Grant 2
    ∷ Step.Grant 3 ∷ Step.Block 1 ∷ Step.Block 2 ∷ Step.Block 3 ∷ Step.Post 1 ∷ [])

pub full_queue_refuses : refusal two_slots full_early (Step.Post 2) ≡ Some Why.CqFull
full_queue_refuses = refl

abbrev full_end : Past
full_end = run two_slots full_early (Step.Reap 1 ∷ Step.Post 2 ∷ Step.Reap 1 ∷ Step.Post 3 ∷ Step.Reap 1 ∷ [])

pub second_pass_posted : posted_ends two_slots full_end 1 ≡ cqe_end 3 1 1 0 ∷ cqe_end 3 2 1 0 ∷ cqe_end 3 3 0 0 ∷ []
second_pass_posted = refl

pub full_legal : legal two_slots full_end ≡ true
full_legal = refl

-- a CID in use
pub cid_in_use_posted : posted_ends default
    (served default 2 (submit 1 0 5 0 0 (one 0xa1) ∷ submit 1 0 5 1 0 (one 0xb2) ∷ [])) 1 ≡ cqe_end 2 5 1 0
    ∷ cqe_end 2 5 7 0 ∷ []
cid_in_use_posted = refl
