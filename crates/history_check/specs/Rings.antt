-- The rings of the queues, as tables.
use Rattle.std.specs.Prelude.{[], map, ℕ, ◌%◌, ◌/◌, ◌==◌}
use Rattle.history_check.specs.Tables.{Tables}
use Rattle.nvme_model.specs.declared.config.ConfigNumbers.{ConfigNumbers}
use Rattle.nvme_model.specs.declared.entry.PostLine.{PostLine}
use Rattle.rings.specs.Completions.{CompletionRing}
use Rattle.rings.specs.Submissions.{SubmissionRing}
use Rattle.rings.specs.declared.completion_ring.Completion.{Completion}

-- the ring of submission queue q
abbrev pub checked_submission_ring : ConfigNumbers → Tables → ℕ → SubmissionRing
checked_submission_ring c s q = record { size = c.sq_size; head = s.fetched q % c.sq_size; waiting = s.waiting q }

-- a completion without its data, which no later entry is judged by
abbrev pub bare : PostLine → Completion
bare p = record { cqe = p.cqe; payload = [] }

-- the ring of completion queue q
abbrev pub checked_completion_ring : ConfigNumbers → Tables → ℕ → CompletionRing
checked_completion_ring c s q =
    record {
      size = c.cq_size;
      tail = s.posts q % c.cq_size;
      phase = (s.posts q / c.cq_size) % 2 == 0;
      waiting = map bare (s.unreaped q);
    }
