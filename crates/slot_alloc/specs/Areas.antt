-- The slots of an allocator, and the parts of a claim.
use Rattle.std.specs.Prelude.{ℕ, ◌+◌}
use Rattle.nvme_model.specs.declared.array.Range.{Range}
use Rattle.slot_alloc.specs.declared.claim.Claim.{Claim}
use Rattle.slot_alloc.specs.declared.slots.Slots.{Slots}

-- the blocks of the slots, a block a slot
abbrev pub area : Slots → Range
area s = record { slba = s.first; blocks = s.count }

-- the block of slot i
abbrev pub block_of : Range → ℕ → ℕ
block_of slots i = slots.slba + i

-- the slot of a claim
abbrev pub slot_of : Claim → ℕ
slot_of c = c.slot

-- the serial of a claim
abbrev pub claim_serial : Claim → ℕ
claim_serial c = c.serial
