-- Fused pairs: their conflicts, their matching and their faults.
use Rattle.std.specs.Prelude.{◌≡◌, refl, ℕ, ◌+◌, ◌*◌, true, Some, List, [], ◌∷◌, replicate, take}
use Rattle.nvme_model.specs.History.{Past}
use Rattle.nvme_model.specs.Refusals.{refusal}
use Rattle.nvme_model.specs.Legal.{legal}
use Rattle.nvme_model.specs.Steps.{run, settle}
use Rattle.nvme_model.specs.Examples.{default, submit, one, pair_on_3, block, grant}
use Rattle.nvme_model.specs.declared.submission.Submission.{Submission}
use Rattle.nvme_model.specs.declared.array.Mode.{Mode}
use Rattle.nvme_model.specs.declared.operation.Found.{Found}
use Rattle.nvme_model.specs.declared.step.Step.{Step}
use Rattle.nvme_model.specs.declared.refusal.Why.{Why}
use Rattle.nvme_model.proofs.ExampleScripts.{posted_ends, served, cqe_end}

-- both published and fetched, the first granted
abbrev two_pairs : List Step
two_pairs =
    Step.Publish 1 (pair_on_3 7 8 0 0xa1) ∷ Step.Publish 2 (pair_on_3 9 10 0 0xb2) ∷ Step.Fetch 1 ∷ Step.Fetch 2
    ∷ Step.Grant 1 ∷ []

-- two pairs on one block
abbrev two_pairs_early : Past
two_pairs_early = run default [] two_pairs

pub second_pair_conflicts : refusal default two_pairs_early (Step.Grant 2) ≡ Some Why.Conflict
second_pair_conflicts = refl

abbrev two_pairs_late : Past
two_pairs_late = run default two_pairs_early (Step.Block 1 ∷ Step.Block 1 ∷ Step.Grant 2 ∷ Step.Block 2 ∷ [])

pub second_pair_differs : take 2 two_pairs_late ≡ block 2 0 3 Found.Differs true ∷ grant 2 0 3 1 Mode.Exclusive ∷ []
second_pair_differs = refl

abbrev two_pairs_end : Past
two_pairs_end = run default two_pairs_late
    (Step.Post 1 ∷ Step.Post 1 ∷ Step.Post 2 ∷ Step.Post 2 ∷ Step.Reap 1 ∷ Step.Reap 1 ∷ Step.Reap 2 ∷ Step.Reap 2 ∷ [])

pub first_pair_posted : posted_ends default two_pairs_end 1 ≡ (2 ∷ 0 ∷ 1 ∷ 0 ∷ 7 ∷ 0 ∷ 1 ∷ 0 ∷ [])
    ∷ (2 ∷ 0 ∷ 1 ∷ 0 ∷ 8 ∷ 0 ∷ 1 ∷ 0 ∷ []) ∷ []
first_pair_posted = refl

pub second_pair_posted : posted_ends default two_pairs_end 2 ≡ (2 ∷ 0 ∷ 2 ∷ 0 ∷ 9 ∷ 0 ∷ 0x0b ∷ 5 ∷ [])
    ∷ (2 ∷ 0 ∷ 2 ∷ 0 ∷ 10 ∷ 0 ∷ 0x13 ∷ 0 ∷ []) ∷ []
second_pair_posted = refl

pub two_pairs_legal : legal default two_pairs_end ≡ true
two_pairs_legal = refl

-- a Compare of block 3 that begins a pair
abbrev first_half : Submission
first_half = submit 5 1 7 3 0 (one 0)

-- a Write of block 3 that ends one
abbrev second_half : Submission
second_half = submit 1 2 8 3 0 (one 0xa1)

-- a first fetched before its second is published
abbrev parted_end : Past
parted_end = run default []
    (Step.Publish 1 (first_half ∷ []) ∷ Step.Fetch 1 ∷ Step.Post 1 ∷ Step.Publish 1 (second_half ∷ []) ∷ Step.Fetch 1
    ∷ Step.Post 2 ∷ Step.Reap 1 ∷ Step.Reap 1 ∷ [])

pub parted_posted : posted_ends default parted_end 1 ≡ cqe_end 1 7 0x15 0 ∷ cqe_end 2 8 0x15 0 ∷ []
parted_posted = refl

-- both published before one Fetch
abbrev joined_end : Past
joined_end = settle 40 default
    (run default [] (Step.Publish 1 (first_half ∷ []) ∷ Step.Publish 1 (second_half ∷ []) ∷ Step.Fetch 1 ∷ []))

pub joined_posted : posted_ends default joined_end 1 ≡ cqe_end 2 7 1 0 ∷ cqe_end 2 8 1 0 ∷ []
joined_posted = refl

-- ranges that differ
pub unlike_ranges_posted : posted_ends default (served default 1 (first_half ∷ submit 1 2 8 4 0 (one 0xa1) ∷ [])) 1
    ≡ cqe_end 2 7 5 0 ∷ cqe_end 2 8 5 0 ∷ []
unlike_ranges_posted = refl

-- a pair of n+1 blocks
abbrev long_pair : ℕ → List Submission
long_pair n = submit 5 1 7 0 n (replicate (512 * (n + 1)) 0) ∷ submit 1 2 8 0 n (replicate (512 * (n + 1)) 0xa1) ∷ []

-- more blocks than the unit of a pair
pub three_blocks_posted : posted_ends default (served default 1 (long_pair 2)) 1 ≡ cqe_end 2 7 0x29 0
    ∷ cqe_end 2 8 0x29 0 ∷ []
three_blocks_posted = refl

-- just as many
pub two_blocks_posted : posted_ends default (served default 1 (long_pair 1)) 1 ≡ cqe_end 2 7 1 0 ∷ cqe_end 2 8 1 0 ∷ []
two_blocks_posted = refl

-- data that is missing
pub missing_data_posted : posted_ends default
    (served default 1 (submit 5 1 7 3 0 [] ∷ submit 1 2 8 3 0 (one 0xa1) ∷ [])) 1 ≡ cqe_end 2 7 9 0 ∷ cqe_end 2 8 0x13 0
    ∷ []
missing_data_posted = refl
