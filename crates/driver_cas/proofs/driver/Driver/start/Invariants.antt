use Rattle.std.proofs.Common.{[], ◌≡◌, ◌≤◌, vec_capacity}
use Rattle.driver_cas.specs.Starts.{IsUntouched}
use Rattle.driver_cas.specs.Turns.{ArePassed}
use Rattle.driver_cas.proofs.driver.Driver.start.Given as goal
use Rattle.nvme_model.specs.Operations.{command_count}

-- nothing was published, and the queues so far didn't take the entries
abbrev pub invariant-loop-k : goal.invariant-loop-k
invariant-loop-k g l = record {
  untouched : IsUntouched l.fn.self l.self;
  contents : l.contents ≡ l.fn.contents;
  empty : l.room.items ≡ [];
  capacity : command_count l.fn.request.op ≤ vec_capacity l.room;
  passed : ArePassed l.fn.self l.self.port l.fn.request l.fn.contents l.k;
}
