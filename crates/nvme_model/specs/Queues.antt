-- The entries of the submission queues (Base 2.0, Queue Pair Model).
use Rattle.std.specs.Prelude.{List, [], drop, if◌then◌else◌, ℕ, ◌++◌, ◌+◌, ◌==◌, ◌∷◌}
use Rattle.nvme_model.specs.History.{Past}
use Rattle.nvme_model.specs.Verdict.{taken_entries}
use Rattle.nvme_model.specs.declared.entry.Entry.{Entry}
use Rattle.nvme_model.specs.declared.submission.Submission.{Submission}

-- the entries published to queue q, in order, batches joined
abbrev pub published_entries : Past → ℕ → List Submission
published_entries [] q = []
published_entries (Entry.Publish p ∷ past) q = published_entries past q ++ (if p.queue == q then p.batch else [])
published_entries (_ ∷ past) q = published_entries past q

-- how many entries were fetched from q
abbrev pub fetched_count : Past → ℕ → ℕ
fetched_count [] q = 0
fetched_count (Entry.Fetch f ∷ past) q = fetched_count past q + (if f.queue == q then taken_entries f.verdict else 0)
fetched_count (_ ∷ past) q = fetched_count past q

-- the entries of queue q that aren't fetched yet
abbrev pub waiting : Past → ℕ → List Submission
waiting past q = drop (fetched_count past q) (published_entries past q)
