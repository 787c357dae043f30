-- How example scripts are run.
use Rattle.std.specs.Prelude.{ℕ, List, [], ◌∷◌, replicate, drop, map}
use Rattle.nvme_model.specs.declared.config.ConfigNumbers.{ConfigNumbers}
use Rattle.nvme_model.specs.History.{Past}
use Rattle.nvme_model.specs.Completions.{posted_completions}
use Rattle.nvme_model.specs.Steps.{run, settle}
use Rattle.nvme_model.specs.Examples.{submit, one}
use Rattle.nvme_model.specs.declared.submission.Submission.{Submission}
use Rattle.nvme_model.specs.declared.step.Step.{Step}

-- bytes 8 to 15 of what was posted to a completion queue
abbrev pub posted_ends : ConfigNumbers → Past → ℕ → List (List ℕ)
posted_ends c past q = map (λ p. drop 8 p.cqe) (posted_completions c past q)

-- n Fetches of queue 1
abbrev pub fetches : ℕ → List Step
fetches n = replicate n (Step.Fetch 1)

-- what one Publish to queue 1 gives, n times fetched and settled
abbrev pub served : ConfigNumbers → ℕ → List Submission → Past
served c n batch = settle 40 c (run c [] (Step.Publish 1 batch ∷ fetches n))

-- these bytes of a completion on queue 1
abbrev pub cqe_end : ℕ → ℕ → ℕ → ℕ → List ℕ
cqe_end sqhd cid low high = sqhd ∷ 0 ∷ 1 ∷ 0 ∷ cid ∷ 0 ∷ low ∷ high ∷ []

-- three Writes of one block
abbrev pub three_writes : List Submission
three_writes = submit 1 0 1 0 0 (one 0xa1) ∷ submit 1 0 2 1 0 (one 0xa1) ∷ submit 1 0 3 2 0 (one 0xa1) ∷ []
