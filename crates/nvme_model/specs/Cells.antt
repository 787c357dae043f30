-- Cells between boundaries, and which ranges are atomic.
use Rattle.std.specs.List.{list_all}
use Rattle.std.specs.Prelude.{Bool, if◌then◌else◌, nat_le, nat_lt, ℕ, ◌&&◌, ◌+◌, ◌-◌, ◌/◌, ◌==◌, ◌||◌}
use Rattle.nvme_model.specs.Array.{blocks_from}
use Rattle.nvme_model.specs.declared.config.AtomicParameters.{AtomicParameters}

-- the cell of a block: 0 below the first boundary, and a new one at each boundary (NVM 1.0, Atomic Boundary Parameters)
abbrev pub cell : AtomicParameters → ℕ → ℕ
cell u l = if (u.nabsn == 0) || nat_lt l u.nabo then 0 else (l - u.nabo) / (u.nabsn + 1) + 1

-- the n blocks from s are all in one cell
abbrev pub in_one_cell : AtomicParameters → ℕ → ℕ → Bool
in_one_cell u s n = list_all (λ l. cell u l == cell u s) (blocks_from s n)

-- the n blocks from s can be one unit: 1 to AWUN+1 blocks, all in one cell (NVM 1.0, AWUN/NAWUN)
abbrev pub is_atomic : AtomicParameters → ℕ → ℕ → Bool
is_atomic u s n = nat_le 1 n && nat_le n (u.awun + 1) && in_one_cell u s n

-- the n blocks from s fit a fused pair: at most ACWU+1 blocks, all in one cell (NVM 1.0, Compare and Write)
abbrev pub pair_fits : AtomicParameters → ℕ → ℕ → Bool
pair_fits u s n = nat_le n (u.acwu + 1) && in_one_cell u s n
