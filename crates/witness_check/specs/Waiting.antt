-- The data of the completions that wait.
use Rattle.std.specs.Prelude.{List, None, Option, Some, [], drop, map, ℕ}
use Rattle.nvme_model.specs.Completions.{posted_completions, reaped_count}
use Rattle.nvme_model.specs.History.{Past}
use Rattle.nvme_model.specs.declared.config.ConfigNumbers.{ConfigNumbers}
use Rattle.nvme_model.specs.declared.entry.PostLine.{PostLine}

-- the data of each of these completions
abbrev pub posted_payloads : List PostLine → List (List ℕ)
posted_payloads posts = map (λ (p : PostLine). p.payload) posts

-- the data of what was posted to completion queue q and not reaped, that of the next one first
abbrev pub waiting_payloads : ConfigNumbers → Past → ℕ → List (List ℕ)
waiting_payloads c past q = posted_payloads (drop (reaped_count past q) (posted_completions c past q))

-- the data of a completion, or none
abbrev pub data_or_none : Option (List ℕ) → List ℕ
data_or_none None = []
data_or_none (Some payload) = payload
