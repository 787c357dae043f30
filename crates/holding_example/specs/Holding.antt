-- What this program shows.
use Rattle.nvme_model.specs.History.{Past}
use Rattle.nvme_model.specs.Legal.{IsLegal}
use Rattle.slot_alloc.specs.Areas.{block_of}
use Rattle.slot_disk.specs.Moments.{HoldsSlot}
use Rattle.slot_disk.specs.Views.{DiskView}

-- At one moment of a legal history of this disk host 1 holds slot 0, and host 2 holds slot 1: nobody but host 1 is
-- believed of the one, and nobody but host 2 of the other.
pub record BothHold (d : DiskView) : Type 0 where
  pub past : Past
  pub legal : IsLegal d.config past
  pub one : HoldsSlot d.config past 1 (block_of d.slots 0)
  pub two : HoldsSlot d.config past 2 (block_of d.slots 1)
