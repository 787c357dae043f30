-- The completions of the completion queues, and their bytes.
use Rattle.std.specs.Prelude.{List, None, Option, Some, [], get_or, if◌then◌else◌, length, ℕ, ◌%◌, ◌++◌, ◌+◌, ◌/◌}
use Rattle.std.specs.Prelude.{◌==◌, ◌∷◌}
use Rattle.nvme_model.specs.Config.{completion_queue}
use Rattle.nvme_model.specs.declared.config.ConfigNumbers.{ConfigNumbers}
use Rattle.nvme_model.specs.EntryBytes.{cqe_bytes}
use Rattle.nvme_model.specs.History.{Past}
use Rattle.nvme_model.specs.Queues.{fetched_count}
use Rattle.nvme_model.specs.Tickets.{cids, posts_of, ticket}
use Rattle.nvme_model.specs.declared.entry.Entry.{Entry}
use Rattle.nvme_model.specs.declared.entry.PostLine.{PostLine}
use Rattle.nvme_model.specs.declared.status.Status.{Status}

-- those posted to completion queue q, in order
abbrev pub posted_completions : ConfigNumbers → Past → ℕ → List PostLine
posted_completions c [] q = []
posted_completions c (Entry.Post p ∷ past) q =
    posted_completions c past q ++ (if completion_queue c (ticket past p.ticket).queue == q then p ∷ [] else [])
posted_completions c (_ ∷ past) q = posted_completions c past q

-- how many were reaped from completion queue q
abbrev pub reaped_count : Past → ℕ → ℕ
reaped_count [] q = 0
reaped_count (Entry.Reap r ∷ past) q = reaped_count past q + (if r.queue == q then 1 else 0)
reaped_count (_ ∷ past) q = reaped_count past q

-- the data of the completion that is reaped
abbrev pub reaped_payload : Option PostLine → List ℕ
reaped_payload None = []
reaped_payload (Some p) = p.payload

-- the phase of the k-th completion of a queue of m slots, k from 0 (Base 2.0, Phase Tag)
abbrev pub phase : ℕ → ℕ → ℕ
phase k m = if (k / m) % 2 == 0 then 1 else 0

-- the bytes of the next completion of ticket t, with this status: SQHD is the submission queue's head then (Base 2.0,
-- Completion Queue Entry)
abbrev pub completion : ConfigNumbers → Past → ℕ → Status → List ℕ
completion c past t s =
    let k = ticket past t in
    cqe_bytes (fetched_count past k.queue % c.sq_size) k.queue (get_or (cids k) (posts_of past t) 0)
    (phase (length (posted_completions c past (completion_queue c k.queue))) c.cq_size) s
