use Rattle.std.proofs.Common.{take, ◌++◌, ◌≡◌}
use Rattle.nvme_model.specs.Tickets.{cids}
use Rattle.history_check.proofs.fetch.put_in_use.Given as goal

abbrev pub invariant-loop-place : goal.invariant-loop-place
invariant-loop-place l = l.used ≡ record l.fn.used { cids = l.fn.used.cids ++ take l.place (cids l.commands) }
