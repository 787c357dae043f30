-- Rings in which nothing was ever put.
use Rattle.std.proofs.Common.{None, [], true, ℕ, ◌≡◌}
use Rattle.nvme_model.specs.Config.{config_fault}
use Rattle.nvme_model.specs.declared.config.ConfigNumbers.{ConfigNumbers}
use Rattle.nvme_model.proofs.Accepted.{accepted}
use Rattle.rings.specs.Completions.{CompletionRing}
use Rattle.rings.specs.Slots.{IsSize}
use Rattle.rings.specs.Submissions.{SubmissionRing}

-- the size of a completion queue that is accepted
pub cq_is_size : (c : ConfigNumbers) → config_fault c ≡ None → IsSize c.cq_size
cq_is_size c e = ((accepted c e).least_cq_slots, (accepted c e).most_cq_slots)

abbrev pub submission_empty : ℕ → SubmissionRing
submission_empty size = record { size = size; head = 0; waiting = [] }

abbrev pub completion_empty : ℕ → CompletionRing
completion_empty size = record { size = size; tail = 0; phase = true; waiting = [] }
