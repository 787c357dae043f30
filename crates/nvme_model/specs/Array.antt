-- Blocks, ranges of blocks, and the block that a volume begins with.
use Rattle.std.specs.Prelude.{Bool, List, [], nat_le, nat_lt, replicate, suc, zero, ℕ, ◌&&◌, ◌+◌, ◌∷◌, ◌≤◌}
use Rattle.nvme_model.specs.declared.array.Range.{Range}

-- the block that a volume begins with: 512 zeros (this profile's)
abbrev pub zeros : List ℕ
zeros = replicate 512 0

-- the n blocks from s on
abbrev pub blocks_from : ℕ → ℕ → List ℕ
blocks_from s zero = []
blocks_from s (suc n) = s ∷ blocks_from (suc s) n

-- the range has block l
abbrev pub has_block : Range → ℕ → Bool
has_block r l = nat_le r.slba l && nat_lt l (r.slba + r.blocks)

-- it has a block, and each block of it can be one of a volume
abbrev pub IsRange : Range → Type 0
IsRange r = (1 ≤ r.blocks) × (r.slba + r.blocks ≤ 65536)

-- the ranges share a block: both have one, and each begins before the other ends
abbrev pub overlap : Range → Range → Bool
overlap r s =
    nat_lt 0 r.blocks && nat_lt 0 s.blocks && (nat_lt r.slba (s.slba + s.blocks) && nat_lt s.slba (r.slba + r.blocks))
