-- A history is the list of its entries, the newest first: the tail of a list is what was before its head.
use Rattle.std.specs.Prelude.{List}
use Rattle.nvme_model.specs.declared.entry.Entry.{Entry}
use Rattle.nvme_model.specs.declared.step.Step.{Step}

-- A history, the newest entry first.
abbrev pub Past : Type 0
Past = List Entry

-- the step of an entry
abbrev pub step_of : Entry → Step
step_of (Entry.Publish p) = Step.Publish p.queue p.batch
step_of (Entry.Fetch f) = Step.Fetch f.queue
step_of (Entry.Grant g) = Step.Grant g.ticket
step_of (Entry.Block b) = Step.Block b.ticket
step_of (Entry.Post p) = Step.Post p.ticket
step_of (Entry.Reap r) = Step.Reap r.queue
