-- What looks at a disk answer.
use Rattle.std.specs.Prelude.{List, length, ℕ, ◌<◌, ◌≡◌, ◌≤◌, ◌⊎◌}
use Rattle.nvme_model.specs.Medium.{medium}
use Rattle.c_handles.specs.Disks.{AsSeen, HasLooked, IsUnseen, disk_config, disk_past}
use Rattle.c_handles.specs.Pieces.{IsForgotten, lines_told}
use Rattle.c_handles.specs.declared.disk.Disk.{Disk}
use Rattle.vandrexu_c.specs.HistoryLines.{CopiesLines, LacksRoomForLine}

-- The controller was looked at. Lines of its history were asked for: as many as fit are copied, or not the first one
-- fits; or the first one was forgotten; or memory was refused; or another handle had the controller.
pub record TellsLines (d e : Disk) (from : ℕ) (old new : List ℕ) (number needed next : ℕ) : Type 0 where
  pub looked : HasLooked d e
  pub told : ((number ≡ 0) × AsSeen e (λ s. CopiesLines (lines_told s from) from old new needed next))
      ⊎ ((number ≡ 103) × AsSeen e (λ s. LacksRoomForLine (lines_told s from) (length old) needed))
      ⊎ ((number ≡ 129) × AsSeen e (λ s. IsForgotten s from))
      ⊎ (number ≡ 11)
      ⊎ ((number ≡ 12) × IsUnseen d e)

-- The same of the count of its entries: it is told, or another handle had the controller.
pub record TellsCount (d e : Disk) (old new number : ℕ) : Type 0 where
  pub looked : HasLooked d e
  pub told : ((number ≡ 0) × (new ≡ length (disk_past e))) ⊎ ((number ≡ 12) × IsUnseen d e × (new ≡ old))

-- The same of a block: it is copied as it lies in the volume; or there is none; or another handle had the controller.
pub record TellsBlock (d e : Disk) (lba : ℕ) (old new : List ℕ) (number : ℕ) : Type 0 where
  pub looked : HasLooked d e
  pub told : ((number ≡ 0) × (lba < (disk_config e).blocks) × (new ≡ medium (disk_past e) lba))
      ⊎ ((number ≡ 104) × ((disk_config e).blocks ≤ lba) × (new ≡ old))
      ⊎ ((number ≡ 12) × IsUnseen d e × (new ≡ old))
