-- A completion queue entry against the next completion of a history.
use Rattle.std.proofs.Common.{get_or, length, ℕ, ◌%◌, ◌≡◌, refl}
use Rattle.nvme_model.specs.Completions.{completion, phase, posted_completions}
use Rattle.nvme_model.specs.Config.{completion_queue}
use Rattle.nvme_model.specs.History.{Past}
use Rattle.nvme_model.specs.Queues.{fetched_count}
use Rattle.nvme_model.specs.Tickets.{cids, posts_of, ticket}
use Rattle.nvme_model.specs.declared.config.ConfigNumbers.{ConfigNumbers}
use Rattle.nvme_model.specs.declared.status.Status.{Status}
use Rattle.nvme_model.specs.Bits.{bit}
use Rattle.entry_codec.specs.Cqe.{completion_bytes}
use Rattle.entry_codec.specs.declared.cqe.Cqe.{Cqe}

-- an entry with the fields of ticket t's next completion has its bytes
pub completion_bytes-completion : (c : ConfigNumbers) (past : Past) (t : ℕ) (status : Status) (cqe : Cqe) →
    cqe.sqhd ≡ fetched_count past (ticket past t).queue % c.sq_size →
    cqe.sqid ≡ (ticket past t).queue →
    cqe.cid ≡ get_or (cids (ticket past t)) (posts_of past t) 0 →
    bit cqe.phase ≡ phase (length (posted_completions c past (completion_queue c (ticket past t).queue)))
    c.cq_size →
    cqe.status ≡ status →
    completion_bytes cqe ≡ completion c past t status
completion_bytes-completion c past t status cqe sqhd sqid cid tag same = rw (sqhd, sqid, cid, tag, same) refl
