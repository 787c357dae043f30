-- The lanes of blocks and of slots.
use Rattle.std.specs.Prelude.{Bool, List, None, Option, Some, [], false, if◌then◌else◌, is_some, ℕ, ◌&&◌, ◌||◌}
use Rattle.std.specs.Prelude.{◌∷◌}
use Rattle.nvme_model.specs.Array.{has_block}
use Rattle.nvme_model.specs.declared.array.Range.{Range}
use Rattle.nvme_model.specs.declared.config.ConfigNumbers.{ConfigNumbers}
use Rattle.nvme_model.specs.declared.entry.BlockLine.{BlockLine}
use Rattle.nvme_model.specs.declared.entry.Entry.{Entry}
use Rattle.nvme_model.specs.declared.entry.ReapLine.{ReapLine}
use Rattle.nvme_model.specs.declared.submission.Submission.{Submission}
use Rattle.picture_shapes.specs.Beliefs.{BeliefsState, beliefs_reaped, beliefs_released, no_beliefs}
use Rattle.picture_shapes.specs.Blocks.{BlocksState, blocks_after_block, no_blocks}
use Rattle.picture_shapes.specs.LaneEntries.{LaneEntriesState, claim_reaped, entry_before, lane_entries_fetched}
use Rattle.picture_shapes.specs.LaneEntries.{lane_entries_granted, lane_entries_posted, lane_entries_reaped}
use Rattle.picture_shapes.specs.LaneEntries.{lane_entry_published, no_lane_entries, release_with, writer_of}
use Rattle.picture_shapes.specs.declared.block.BlockNow.{BlockNow}
use Rattle.picture_shapes.specs.declared.lanes.LanesShown.{LanesShown}

-- Which lanes are shown, and what they are made of: the entries in flight, the blocks that were touched, and who is
-- believed of slots.
pub record LanesState : Type 0 where
  pub shown : LanesShown
  pub entries : LaneEntriesState
  pub blocks : BlocksState
  pub beliefs : BeliefsState

-- no entry was taken
abbrev pub no_lanes : LanesShown → LanesState
no_lanes shown = record { shown = shown; entries = no_lane_entries; blocks = no_blocks; beliefs = no_beliefs }

-- whether there is a lane at all
abbrev pub shows_lanes : LanesShown → Bool
shows_lanes shown = shown.blocks || is_some shown.slots

-- whether an area has a block
abbrev pub has_slot : Option Range → ℕ → Bool
has_slot None l = false
has_slot (Some slots) l = has_block slots l

-- Whether a block has a lane of its value: where a step that is drawn touched it.
abbrev pub is_block_lane : LanesShown → BlockNow → Bool
is_block_lane shown b = shown.blocks && b.touched

-- Whether a block that was touched has a lane of a slot: where it is in the area.
abbrev pub is_slot_lane : LanesShown → BlockNow → Bool
is_slot_lane shown b = has_slot shown.slots b.lba

-- one entry is published at this place
abbrev pub lane_published : (from place queue : ℕ) → Submission → LanesState → LanesState
lane_published from place queue x s =
    record s {
      entries = lane_entry_published place queue x s.entries;
      beliefs = beliefs_released from place (release_with (entry_before place s.entries.entries) x) s.beliefs;
    }

-- each entry of a Publish is
abbrev pub lanes_published : (from place queue : ℕ) → List Submission → LanesState → LanesState
lanes_published from place queue [] s = s
lanes_published from place queue (x ∷ xs) s =
    lanes_published from place queue xs (lane_published from place queue x s)

-- a Block says what lies in its blocks
abbrev pub lanes_block : (from place : ℕ) → BlockLine → LanesState → LanesState
lanes_block from place b s =
    record s { blocks = blocks_after_block from place b (writer_of b.ticket s.entries.entries) s.blocks }

-- a Reap may tell of a claim's success
abbrev pub lanes_reaped : ℕ → ReapLine → LanesState → LanesState
lanes_reaped place r s =
    record s {
      entries = lane_entries_reaped r.queue s.entries;
      beliefs = beliefs_reaped place (claim_reaped r.queue s.entries) s.beliefs;
    }

-- the lanes behind an entry
abbrev pub lanes_with : ConfigNumbers → (from place : ℕ) → Entry → LanesState → LanesState
lanes_with c from place (Entry.Publish p) s = lanes_published from place p.queue p.batch s
lanes_with c from place (Entry.Fetch f) s = record s { entries = lane_entries_fetched f s.entries }
lanes_with c from place (Entry.Grant g) s = record s { entries = lane_entries_granted g s.entries }
lanes_with c from place (Entry.Block b) s = lanes_block from place b s
lanes_with c from place (Entry.Post p) s = record s { entries = lane_entries_posted c p s.entries }
lanes_with c from place (Entry.Reap r) s = lanes_reaped place r s

-- The lanes behind the entry at this place, of a picture that begins at `from`; nothing is kept where none is shown.
abbrev pub lanes_after : ConfigNumbers → (from place : ℕ) → Entry → LanesState → LanesState
lanes_after c from place e s = if shows_lanes s.shown then lanes_with c from place e s else s
