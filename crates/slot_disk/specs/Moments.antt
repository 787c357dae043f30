-- Who holds what at one moment of a history.
use Rattle.std.specs.Prelude.{Some, true, ℕ, ◌≡◌}
use Rattle.nvme_model.specs.History.{Past}
use Rattle.nvme_model.specs.Legal.{IsLegal}
use Rattle.nvme_model.specs.Slots.{Name, believed, holder}
use Rattle.nvme_model.specs.declared.config.ConfigNumbers.{ConfigNumbers}
use Rattle.slot_alloc.specs.Areas.{block_of}
use Rattle.slot_disk.specs.Views.{DiskView, has}

-- At this moment of the history the slot at block l holds a name of this host, and nobody else is believed of it.
pub record HoldsSlot (c : ConfigNumbers) (past : Past) (host l : ℕ) : Type 0 where
  pub name : Name
  pub own : name.host ≡ host
  pub holds : holder past l ≡ Some name
  pub alone : (n : Name) → believed c past l n ≡ true → n ≡ name

-- At one moment of a legal history each host holds the slots that it has.
pub record IsMoment (d : DiskView) : Type 0 where
  pub past : Past
  pub legal : IsLegal d.config past
  pub each : (h i : ℕ) → has d h i ≡ true → HoldsSlot d.config past h (block_of d.slots i)
