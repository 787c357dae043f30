-- How far a cell reaches.
use Rattle.std.specs.Prelude.{if◌then◌else◌, min, nat_lt, ℕ, ◌%◌, ◌+◌, ◌-◌, ◌==◌}
use Rattle.nvme_model.specs.declared.config.AtomicParameters.{AtomicParameters}

-- the blocks from block l on that are before the next boundary, at most n (NVM Command Set 1.0, Atomic Boundary
-- Parameters)
abbrev pub cell_room : AtomicParameters → ℕ → ℕ → ℕ
cell_room u l n =
    if u.nabsn == 0 then n else if nat_lt l u.nabo then min n (u.nabo - l)
    else min n (u.nabsn + 1 - (l - u.nabo) % (u.nabsn + 1))
