-- A Publish of one entry, and of two.
use Rattle.std.specs.Prelude.{[], ℕ, ◌∷◌}
use Rattle.nvme_model.specs.declared.entry.Entry.{Entry}
use Rattle.nvme_model.specs.declared.entry.PublishLine.{PublishLine}
use Rattle.nvme_model.specs.declared.submission.Submission.{Submission}

-- the Publish of one entry to submission queue q
abbrev pub single_on : ℕ → Submission → Entry
single_on q s = Entry.Publish (record { queue = q; batch = s ∷ [] })

-- the batch of two entries for submission queue q
abbrev pub pair_line : ℕ → Submission → Submission → PublishLine
pair_line q a b = record { queue = q; batch = a ∷ b ∷ [] }

-- and its Publish
abbrev pub pair_on : ℕ → Submission → Submission → Entry
pair_on q a b = Entry.Publish (pair_line q a b)
