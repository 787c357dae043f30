use Rattle.std.proofs.Common.{length, take, vec_capacity, ◌≡◌, ◌≤◌}
use Rattle.nvme_model.proofs.submission.copies_of.Given as goal

abbrev pub invariant-loop-one : goal.invariant-loop-one
invariant-loop-one l = (l.copies.items ≡ take l.one-index l.entries) × (length l.entries ≤ vec_capacity l.copies)
