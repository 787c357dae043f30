-- The rings of the queues of a history.
use Rattle.std.specs.Prelude.{drop, length, map, ℕ, ◌%◌, ◌/◌, ◌==◌}
use Rattle.nvme_model.specs.Completions.{posted_completions, reaped_count}
use Rattle.nvme_model.specs.History.{Past}
use Rattle.nvme_model.specs.Queues.{fetched_count, waiting}
use Rattle.nvme_model.specs.declared.config.ConfigNumbers.{ConfigNumbers}
use Rattle.nvme_model.specs.declared.entry.PostLine.{PostLine}
use Rattle.rings.specs.Completions.{CompletionRing}
use Rattle.rings.specs.Submissions.{SubmissionRing}
use Rattle.rings.specs.declared.completion_ring.Completion.{Completion}

-- the ring of submission queue q
unfoldable pub submission_ring : ConfigNumbers → Past → ℕ → SubmissionRing
submission_ring c past q =
    record { size = c.sq_size; head = fetched_count past q % c.sq_size; waiting = waiting past q }

-- a completion without its ticket
abbrev pub completion_of : PostLine → Completion
completion_of p = record { cqe = p.cqe; payload = p.payload }

-- the ring of completion queue q
unfoldable pub completion_ring : ConfigNumbers → Past → ℕ → CompletionRing
completion_ring c past q =
    let n = length (posted_completions c past q) in
    record {
      size = c.cq_size;
      tail = n % c.cq_size;
      phase = (n / c.cq_size) % 2 == 0;
      waiting = map completion_of (drop (reaped_count past q) (posted_completions c past q));
    }
