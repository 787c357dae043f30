-- The bytes that a unit compares, writes and reads, and what its Block steps make of the volume.
use Rattle.std.specs.Prelude.{Bool, List, [], bytes_eq, drop, false, get_or, if◌then◌else◌, nat_le, slice_set, suc}
use Rattle.std.specs.Prelude.{take, true, zero, ℕ, ◌*◌, ◌++◌, ◌+◌, ◌∷◌}
use Rattle.nvme_model.specs.Array.{zeros}
use Rattle.nvme_model.specs.Open.{is_read_found, is_written}
use Rattle.nvme_model.specs.declared.operation.Found.{Found}
use Rattle.nvme_model.specs.declared.operation.Op.{Op}
use Rattle.block_exec.specs.Progress.{UnitProgress, next_block, next_place}

-- the i-th block of this data
abbrev pub data_at : List ℕ → ℕ → List ℕ
data_at bytes i = take 512 (drop (512 * i) bytes)

-- the first n blocks of this data
abbrev pub first_blocks : ℕ → List ℕ → List (List ℕ)
first_blocks zero bytes = []
first_blocks (suc n) bytes = first_blocks n bytes ++ data_at bytes n ∷ []

-- these bytes with this block as their i-th
abbrev pub put_at : List ℕ → ℕ → List ℕ → List ℕ
put_at bytes i block = take (512 * i) bytes ++ block ++ drop (512 * i + 512) bytes

-- the block of this number
abbrev pub block_at : List (List ℕ) → ℕ → List ℕ
block_at volume l = get_or volume l zeros

-- whether the block that is due is the Compare's data
abbrev pub next_equal : UnitProgress → List (List ℕ) → List ℕ → Bool
next_equal p volume compare = bytes_eq (block_at volume (next_block p)) (data_at compare (next_place p))

-- what is written to a block, where this is its data
abbrev pub written_by : Op → List ℕ → List ℕ
written_by Op.WriteZeroes block = zeros
written_by _ block = block

-- the volume after a Block step of this unit that found this, where this was the data of its block
abbrev pub volume_with : UnitProgress → List (List ℕ) → List ℕ → Found → List (List ℕ)
volume_with p volume block found =
    if is_written found then slice_set volume (next_block p) (written_by p.op block) else volume

-- and where these were the data of the unit's blocks
abbrev pub volume_after : UnitProgress → List (List ℕ) → List (List ℕ) → Found → List (List ℕ)
volume_after p volume write found = volume_with p volume (block_at write (next_place p)) found

-- a Block step of this operation that found this wrote from a box
abbrev pub takes_box : Op → Found → Bool
takes_box Op.WriteZeroes found = false
takes_box _ found = is_written found

-- what boxes hold after such a step, where the i-th was that of its block: it then holds what the volume held there
abbrev pub boxes_after : UnitProgress → List (List ℕ) → List (List ℕ) → ℕ → Found → List (List ℕ)
boxes_after p volume boxes i found =
    if takes_box p.op found then slice_set boxes i (block_at volume (next_block p)) else boxes

-- the j-th Block step of a unit of n blocks, j from 0, writes from a box
abbrev pub needs_box_by : Op → ℕ → ℕ → Bool
needs_box_by Op.Write n j = true
needs_box_by Op.Pair n j = nat_le n j
needs_box_by _ n j = false

-- so does the step that is due
abbrev pub needs_box : UnitProgress → Bool
needs_box p = needs_box_by p.op p.range.blocks p.made

-- what was read of the unit after such a step
abbrev pub read_after : UnitProgress → List (List ℕ) → List ℕ → Found → List ℕ
read_after p volume read found =
    if is_read_found found then put_at read (next_place p) (block_at volume (next_block p)) else read

-- how many bytes a unit of n blocks compares with
abbrev pub compare_length : Op → ℕ → ℕ
compare_length Op.Compare n = 512 * n
compare_length Op.Pair n = 512 * n
compare_length _ n = 0

-- how many blocks it writes from boxes
abbrev pub write_count : Op → ℕ → ℕ
write_count Op.Write n = n
write_count Op.Pair n = n
write_count _ n = 0

-- how many bytes it reads
abbrev pub read_length : Op → ℕ → ℕ
read_length Op.Read n = 512 * n
read_length _ n = 0
