-- What the effect of a pair finds, and leaves.
use Rattle.std.specs.Prelude.{Some, true, ℕ, ◌++◌, ◌≡◌, ◌∷◌}
use Rattle.nvme_model.specs.History.{Past}
use Rattle.nvme_model.specs.Operations.{op}
use Rattle.nvme_model.specs.Placed.{effect}
use Rattle.nvme_model.specs.Slots.{holder}
use Rattle.nvme_model.specs.Tickets
use Rattle.nvme_model.specs.declared.entry.BlockLine.{BlockLine}
use Rattle.nvme_model.specs.declared.entry.Entry.{Entry}
use Rattle.nvme_model.specs.declared.operation.Op.{Op}
use Rattle.host_laws.specs.Calls.{takes}
use Rattle.host_laws.specs.Takeovers.{Takeover}

-- The pair whose first is entry j of submission queue q has its effect, with this history before it.
pub record HasEffect (past : Past) (q j : ℕ) : Type 0 where
  pub ticket : ℕ
  pub takes : takes past ticket q j ≡ true
  pub pair : op (Tickets.ticket past ticket) ≡ Some Op.Pair
  pub before : Past
  pub effect : effect past ticket 0 ≡ Some before

-- At one place of the history the takeover took effect: before it the dead name held the slot, and behind it the
-- takeover's own name does.
pub record TakesOver (past : Past) (w : Takeover) : Type 0 where
  pub later : Past
  pub block : BlockLine
  pub before : Past
  pub is : past ≡ later ++ (Entry.Block block ∷ before)
  pub from : holder before w.lba ≡ Some w.dead
  pub to : holder (Entry.Block block ∷ before) w.lba ≡ Some w.name
