-- A history: what of it is still in memory, and for how many more entries there is room.
use Rattle.std.specs.Prelude.{ℕ}
use Rattle.nvme_model.specs.History.{Past}

-- All entries, the newest first; how many of the oldest were forgotten, which aren't in memory; and the room for more.
pub record HistoryRoom : Type 0 where
  pub past : Past
  pub forgotten : ℕ
  pub room : ℕ
