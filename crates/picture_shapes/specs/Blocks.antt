-- What lies in blocks, from one writer to the next.
use Rattle.std.specs.Prelude.{Bool, List, None, Option, Some, [], false, if◌then◌else◌, length, min, nat_le, nat_lt}
use Rattle.std.specs.Prelude.{not, slice_get, slice_set, suc, true, zero, ℕ, ◌&&◌, ◌++◌, ◌+◌, ◌==◌, ◌||◌, ◌∷◌}
use Rattle.std.specs.List.{position}
use Rattle.nvme_model.specs.declared.entry.BlockLine.{BlockLine}
use Rattle.nvme_model.specs.declared.operation.Found.{Found}
use Rattle.picture_shapes.specs.Contents.{content_of, unwritten}
use Rattle.picture_shapes.specs.LaneEntries.{written_at}
use Rattle.picture_shapes.specs.declared.block.BlockNow.{BlockNow}
use Rattle.picture_shapes.specs.declared.block.SpanKind.{SpanKind}
use Rattle.picture_shapes.specs.declared.block.Span.{Span}
use Rattle.picture_shapes.specs.declared.content.Content.{Content}
use Rattle.picture_shapes.specs.declared.lane_entry.LaneEntry.{LaneEntry}

-- What each block is now that was touched, in the order in which they first were; and what they were before.
pub record BlocksState : Type 0 where
  pub blocks : List BlockNow
  pub spans : List Span

-- none
abbrev pub no_blocks : BlocksState
no_blocks = record { blocks = []; spans = [] }

-- ---- one block

-- a block that nobody touched
abbrev pub fresh_block : ℕ → BlockNow
fresh_block l =
    record { lba = l; touched = false; seen = unwritten; seen_since = 0; medium = unwritten; medium_since = 0 }

-- the blocks behind the last step that touched one, at this place: it is touched where the step is drawn
abbrev pub as_touched : (from place : ℕ) → BlockNow → BlockNow
as_touched from place b = record b { touched = b.touched || nat_le from place }

-- What observers see of a block from this place on.
abbrev pub as_marked : ℕ → Content → BlockNow → BlockNow
as_marked place content b = record b { seen = content; seen_since = place; medium_since = place }

-- What lies in a block from this place on.
abbrev pub as_written : ℕ → Content → BlockNow → BlockNow
as_written place content b = record b { medium = content; medium_since = place }

-- what observers saw of a block up to this place
abbrev pub seen_span : Option ℕ → BlockNow → Span
seen_span ended b =
    record { lba = b.lba; kind = SpanKind.Seen; content = b.seen; begun = b.seen_since; ended = ended }

-- what lay in it up to this place
abbrev pub medium_span : Option ℕ → BlockNow → Span
medium_span ended b =
    record { lba = b.lba; kind = SpanKind.Medium; content = b.medium; begun = b.medium_since; ended = ended }

-- whether two writers are the same
abbrev pub same_ticket : Option ℕ → Option ℕ → Bool
same_ticket None None = true
same_ticket (Some t) (Some u) = t == u
same_ticket t u = false

-- Whether there lies something else in a block than what observers see: what another ticket wrote.
abbrev pub differs : BlockNow → Bool
differs b = not (same_ticket b.seen.ticket b.medium.ticket)

-- a span, where this is so
abbrev pub span_if : Bool → Span → List Span
span_if here span = if here then span ∷ [] else []

-- what lay in a block up to this place, from another one on, where it is another thing than what was seen, and the
-- place is drawn
abbrev pub medium_spans : (from place : ℕ) → BlockNow → List Span
medium_spans from place b =
    span_if (nat_le from place && differs b && nat_lt b.medium_since place) (medium_span (Some place) b)

-- what was seen of it, where the place is drawn
abbrev pub seen_spans : (from place : ℕ) → BlockNow → List Span
seen_spans from place b = span_if (nat_le from place) (seen_span (Some place) b)

-- ---- the table

-- where a block is
abbrev pub block_place : ℕ → List BlockNow → Option ℕ
block_place l blocks = position (λ b. b.lba == l) blocks

-- the blocks with that one
abbrev pub with_block_at : ℕ → List BlockNow → Option ℕ → List BlockNow
with_block_at l blocks None = blocks ++ fresh_block l ∷ []
with_block_at l blocks (Some i) = blocks

-- its index, or that of a new one behind all others
abbrev pub index_at : List BlockNow → Option ℕ → ℕ
index_at blocks None = length blocks
index_at blocks (Some i) = i

-- the blocks with that one
abbrev pub with_block : ℕ → List BlockNow → List BlockNow
with_block l blocks = with_block_at l blocks (block_place l blocks)

-- its index among them
abbrev pub block_index : ℕ → List BlockNow → ℕ
block_index l blocks = index_at blocks (block_place l blocks)

-- ---- steps

-- the block at an index, which a step touches
abbrev pub touched_there : (from place i : ℕ) → BlocksState → Option BlockNow → BlocksState
touched_there from place i s None = s
touched_there from place i s (Some b) = record s { blocks = slice_set s.blocks i (as_touched from place b) }

-- A step touches a block.
abbrev pub block_touched : (from place l : ℕ) → BlocksState → BlocksState
block_touched from place l s =
    let blocks = with_block l s.blocks in
    touched_there from place (block_index l s.blocks) (record s { blocks = blocks })
    (slice_get blocks (block_index l s.blocks))

-- the block at an index, at the mark of a unit
abbrev pub marked_there : (from place i : ℕ) → Content → BlocksState → Option BlockNow → BlocksState
marked_there from place i content s None = s
marked_there from place i content s (Some b) =
    record {
      blocks = slice_set s.blocks i (as_marked place content (as_touched from place b));
      spans = (s.spans ++ seen_spans from place b) ++ medium_spans from place b;
    }

-- At the mark of a unit observers see its value of a block.
abbrev pub block_marked : (from place l : ℕ) → Content → BlocksState → BlocksState
block_marked from place l content s =
    let blocks = with_block l s.blocks in
    marked_there from place (block_index l s.blocks) content (record s { blocks = blocks })
    (slice_get blocks (block_index l s.blocks))

-- so is each of the first n blocks from block l on
abbrev pub blocks_marked : (from place : ℕ) → LaneEntry → (ticket l n : ℕ) → BlocksState → BlocksState
blocks_marked from place x ticket l zero s = s
blocks_marked from place x ticket l (suc n) s =
    block_marked from place (l + n) (content_of ticket (written_at x (l + n)))
    (blocks_marked from place x ticket l n s)

-- A unit that writes takes effect, on all its blocks at once.
abbrev pub unit_marked : (from place : ℕ) → LaneEntry → ℕ → BlocksState → BlocksState
unit_marked from place x ticket s = blocks_marked from place x ticket (min x.unit.slba 65536) x.unit.blocks s

-- the block at an index, where it is written
abbrev pub written_there : (from place i : ℕ) → Content → BlocksState → Option BlockNow → BlocksState
written_there from place i content s None = s
written_there from place i content s (Some b) =
    record {
      blocks = slice_set s.blocks i (as_written place content (as_touched from place b));
      spans = s.spans ++ medium_spans from place b;
    }

-- A Block that says `written` puts its ticket's value into its block.
abbrev pub block_written : (from place l : ℕ) → Content → BlocksState → BlocksState
block_written from place l content s =
    let blocks = with_block l s.blocks in
    written_there from place (block_index l s.blocks) content (record s { blocks = blocks })
    (slice_get blocks (block_index l s.blocks))

-- whether a Block says `differs`
abbrev pub says_differs : Found → Bool
says_differs Found.Differs = true
says_differs found = false

-- whether a unit that writes takes effect at a Block: not where that differs
abbrev pub is_effect : BlockLine → Bool
is_effect b = b.effect && not (says_differs b.found)

-- whether a Block says `written`
abbrev pub says_written : Found → Bool
says_written Found.Written = true
says_written found = false

-- the effect of the unit, where this is its Block
abbrev pub effect_made : (from place : ℕ) → BlockLine → LaneEntry → BlocksState → BlocksState
effect_made from place b x s = if is_effect b then unit_marked from place x b.ticket s else s

-- what is written, where something is
abbrev pub write_made : (from place : ℕ) → BlockLine → LaneEntry → BlocksState → BlocksState
write_made from place b x s =
    if says_written b.found then block_written from place b.lba (content_of b.ticket (written_at x b.lba)) s else s

-- the blocks behind a Block of a ticket whose entry that writes is this, where there is one
abbrev pub blocks_after_block : (from place : ℕ) → BlockLine → Option LaneEntry → BlocksState → BlocksState
blocks_after_block from place b None s = block_touched from place b.lba s
blocks_after_block from place b (Some x) s =
    write_made from place b x (effect_made from place b x (block_touched from place b.lba s))
