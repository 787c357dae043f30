-- The part of a unit in the data of its ticket.
use Rattle.std.specs.Prelude.{List, [], drop, length, take, ℕ, ◌*◌, ◌++◌, ◌+◌, ◌-◌, ◌≡◌, ◌≤◌, ◌⊎◌}
use Rattle.nvme_model.specs.declared.array.Range.{Range}

-- where the bytes of these blocks begin and end in the data of blocks from s on
abbrev pub part_start : ℕ → Range → ℕ
part_start s r = 512 * (r.slba - s)

-- where the part of these blocks ends in data for the blocks from s on, in bytes
abbrev pub part_end : ℕ → Range → ℕ
part_end s r = 512 * (r.slba - s) + 512 * r.blocks

-- these bytes
abbrev pub part_of : List ℕ → ℕ → Range → List ℕ
part_of bytes s r = take (512 * r.blocks) (drop (part_start s r) bytes)

-- with others in their place
abbrev pub with_part : List ℕ → ℕ → Range → List ℕ → List ℕ
with_part bytes s r part = take (part_start s r) bytes ++ part ++ drop (part_end s r) bytes

-- the data is none, or has them
abbrev pub HasPart : List ℕ → ℕ → Range → Type 0
HasPart bytes s r = (bytes ≡ []) ⊎ (part_end s r ≤ length bytes)
