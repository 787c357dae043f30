-- The entries that aren't posted yet, with what they write; and the completions that wait.
use Rattle.std.specs.Prelude.{Bool, List, None, Option, Some, [], bytes_eq, drop, false, if◌then◌else◌, length, min}
use Rattle.std.specs.Prelude.{remove, slice_get, slice_set, take, ℕ, ◌&&◌, ◌*◌, ◌++◌, ◌-◌, ◌==◌, ◌||◌, ◌∷◌}
use Rattle.std.specs.List.{position}
use Rattle.nvme_model.specs.Array.{zeros}
use Rattle.nvme_model.specs.Commands.{is_write, is_write_zeroes}
use Rattle.nvme_model.specs.Config.{completion_queue}
use Rattle.nvme_model.specs.EntryBytes.{slba, sqe_fields}
use Rattle.nvme_model.specs.Slots.{Name, is_pair_on_one, name_of, says_success}
use Rattle.nvme_model.specs.Verdict.{taken_entries}
use Rattle.nvme_model.specs.declared.array.Range.{Range}
use Rattle.nvme_model.specs.declared.config.ConfigNumbers.{ConfigNumbers}
use Rattle.nvme_model.specs.declared.entry.FetchLine.{FetchLine}
use Rattle.nvme_model.specs.declared.entry.GrantLine.{GrantLine}
use Rattle.nvme_model.specs.declared.entry.PostLine.{PostLine}
use Rattle.nvme_model.specs.declared.submission.Submission.{Submission}
use Rattle.picture_shapes.specs.declared.lane_entry.LaneEntry.{LaneEntry}
use Rattle.picture_shapes.specs.declared.lane_entry.LaneEntryStage.{LaneEntryStage}
use Rattle.picture_shapes.specs.declared.lane_entry.LaneEntryStage.TheVariants.{InFlight, Waiting}
use Rattle.picture_shapes.specs.declared.lane_entry.SlotName.{SlotName}
use Rattle.picture_shapes.specs.declared.lane_entry.Win.{Win}

-- The entries that aren't posted, in the order in which they were published; and the completions that wait, in the
-- order in which they were posted.
pub record LaneEntriesState : Type 0 where
  pub entries : List LaneEntry
  pub wins : List Win

-- none
abbrev pub no_lane_entries : LaneEntriesState
no_lane_entries = record { entries = []; wins = [] }

-- ---- claims and releases

-- that name, at the block where two entries are a pair
abbrev pub slot_named : ℕ → Option Name → Option SlotName
slot_named lba None = None
slot_named lba (Some n) = Some (record { lba = lba; name = n })

-- The claim that two entries are: a pair on one block that compares with zeros and writes a name.
abbrev pub claimed_slot_name : Submission → Submission → Option SlotName
claimed_slot_name a b =
    if is_pair_on_one a b && bytes_eq a.payload zeros
    then slot_named (slba (sqe_fields a.entry)) (name_of b.payload)
    else None

-- The release that two entries are: a pair on one block that compares with a name and writes zeros.
abbrev pub released_slot_name : Submission → Submission → Option SlotName
released_slot_name a b =
    if is_pair_on_one a b && bytes_eq b.payload zeros
    then slot_named (slba (sqe_fields a.entry)) (name_of a.payload)
    else None

-- ---- where an entry is

-- whether two stages are the same
abbrev pub same_lane_entry_stage : LaneEntryStage → LaneEntryStage → Bool
same_lane_entry_stage (Waiting q) (Waiting r) = q == r
same_lane_entry_stage (InFlight t) (InFlight u) = t == u
same_lane_entry_stage s r = false

-- whether an entry has come so far
abbrev pub is_lane_entry_at : LaneEntryStage → LaneEntry → Bool
is_lane_entry_at stage x = same_lane_entry_stage x.stage stage

-- where the first entry is that has come so far
abbrev pub lane_entry_place : LaneEntryStage → List LaneEntry → Option ℕ
lane_entry_place stage entries = position (is_lane_entry_at stage) entries

-- whether an entry writes
abbrev pub is_writing : LaneEntry → Bool
is_writing x = is_write (sqe_fields x.item.entry) || is_write_zeroes (sqe_fields x.item.entry)

-- whether an entry is of this ticket, and writes
abbrev pub writes_for : ℕ → LaneEntry → Bool
writes_for ticket x = same_lane_entry_stage x.stage (InFlight ticket) && is_writing x

-- where the entry of a ticket is that writes
abbrev pub writer_place : ℕ → List LaneEntry → Option ℕ
writer_place ticket entries = position (writes_for ticket) entries

-- the entry at a place, where there is one
abbrev pub lane_entry_at : List LaneEntry → Option ℕ → Option LaneEntry
lane_entry_at entries None = None
lane_entry_at entries (Some i) = slice_get entries i

-- the entry of a ticket that writes
abbrev pub writer_of : ℕ → List LaneEntry → Option LaneEntry
writer_of ticket entries = lane_entry_at entries (writer_place ticket entries)

-- ---- Publish

-- the last of the entries, where it was published by this step
abbrev pub same_batch : ℕ → Option LaneEntry → Option LaneEntry
same_batch place None = None
same_batch place (Some x) = if x.published == place then Some x else None

-- the entry before one that is published at this place, where it is of the same batch
abbrev pub entry_before : ℕ → List LaneEntry → Option LaneEntry
entry_before place entries = same_batch place (slice_get entries (length entries - 1))

-- the claim that an entry ends
abbrev pub claim_with : Option LaneEntry → Submission → Option SlotName
claim_with None x = None
claim_with (Some a) x = claimed_slot_name a.item x

-- the release that an entry ends
abbrev pub release_with : Option LaneEntry → Submission → Option SlotName
release_with None x = None
release_with (Some a) x = released_slot_name a.item x

-- an entry that is published at this place
abbrev pub new_lane_entry : (place queue : ℕ) → Option SlotName → Submission → LaneEntry
new_lane_entry place queue claim x =
    record {
      published = place;
      queue = queue;
      stage = Waiting queue;
      item = x;
      claim = claim;
      unit = record { slba = 0; blocks = 0 };
    }

-- The entries with one more, which is published at this place.
abbrev pub lane_entry_published : (place queue : ℕ) → Submission → LaneEntriesState → LaneEntriesState
lane_entry_published place queue x s =
    record s { entries = s.entries ++ new_lane_entry place queue (claim_with (entry_before place s.entries) x) x ∷ [] }

-- ---- Fetch

-- the entry at a place, in flight with this ticket
abbrev pub flying_there : ℕ → List LaneEntry → ℕ → Option LaneEntry → List LaneEntry
flying_there ticket entries i None = entries
flying_there ticket entries i (Some x) = slice_set entries i (record x { stage = InFlight ticket })

-- the same, where there is a place
abbrev pub flying_at : ℕ → List LaneEntry → Option ℕ → List LaneEntry
flying_at ticket entries None = entries
flying_at ticket entries (Some i) = flying_there ticket entries i (slice_get entries i)

-- the entry that waits first in a submission queue, in flight with this ticket
abbrev pub first_flying : (queue ticket : ℕ) → List LaneEntry → List LaneEntry
first_flying queue ticket entries = flying_at ticket entries (lane_entry_place (Waiting queue) entries)

-- A Fetch takes the entry that waits first in its queue, and of a pair the next too.
abbrev pub lane_entries_fetched : FetchLine → LaneEntriesState → LaneEntriesState
lane_entries_fetched f s =
    let one = first_flying f.queue f.ticket s.entries in
    record s { entries = if taken_entries f.verdict == 2 then first_flying f.queue f.ticket one else one }

-- ---- Grant

-- the entry at a place, with this unit
abbrev pub lane_entry_granted_there : Range → List LaneEntry → ℕ → Option LaneEntry → List LaneEntry
lane_entry_granted_there range entries i None = entries
lane_entry_granted_there range entries i (Some x) = slice_set entries i (record x { unit = range })

-- the same, where there is a place
abbrev pub lane_entry_granted_at : Range → List LaneEntry → Option ℕ → List LaneEntry
lane_entry_granted_at range entries None = entries
lane_entry_granted_at range entries (Some i) = lane_entry_granted_there range entries i (slice_get entries i)

-- A Grant says of the entry that writes which blocks its unit has.
abbrev pub lane_entries_granted : GrantLine → LaneEntriesState → LaneEntriesState
lane_entries_granted g s =
    record s { entries = lane_entry_granted_at g.range s.entries (writer_place g.ticket s.entries) }

-- ---- Block

-- the 512 bytes of data behind so many blocks
abbrev pub block_behind : ℕ → List ℕ → List ℕ
block_behind blocks bytes = take 512 (drop (512 * blocks) bytes)

-- the data beside an entry that are of block l; no volume has more than 65,536 blocks
abbrev pub data_of_block : LaneEntry → ℕ → List ℕ
data_of_block x l = block_behind (min (l - slba (sqe_fields x.item.entry)) 65536) x.item.payload

-- The bytes that an entry writes at block l.
abbrev pub written_at : LaneEntry → ℕ → List ℕ
written_at x l = if is_write_zeroes (sqe_fields x.item.entry) then zeros else data_of_block x l

-- ---- Post

-- the claim that a completion tells of, where it says success
abbrev pub claim_won : PostLine → Option SlotName → Option SlotName
claim_won p claim = if says_success p.cqe then claim else None

-- an entry is posted, and its completion waits
abbrev pub lane_entry_posted_there : ConfigNumbers → PostLine → ℕ → LaneEntriesState → Option LaneEntry
    → LaneEntriesState
lane_entry_posted_there c p i s None = s
lane_entry_posted_there c p i s (Some x) =
    record {
      entries = remove s.entries i;
      wins = s.wins ++ (record { queue = completion_queue c x.queue; claim = claim_won p x.claim }) ∷ [];
    }

-- the same, where there is a place
abbrev pub lane_entry_posted_at : ConfigNumbers → PostLine → LaneEntriesState → Option ℕ → LaneEntriesState
lane_entry_posted_at c p s None = s
lane_entry_posted_at c p s (Some i) = lane_entry_posted_there c p i s (slice_get s.entries i)

-- A Post is for the first entry of its ticket that isn't posted, and its completion waits.
abbrev pub lane_entries_posted : ConfigNumbers → PostLine → LaneEntriesState → LaneEntriesState
lane_entries_posted c p s = lane_entry_posted_at c p s (lane_entry_place (InFlight p.ticket) s.entries)

-- ---- Reap

-- where the completion is that waits longest in a completion queue
abbrev pub win_place : ℕ → List Win → Option ℕ
win_place queue wins = position (λ x. x.queue == queue) wins

-- the completions without that one
abbrev pub wins_without : List Win → Option ℕ → List Win
wins_without wins None = wins
wins_without wins (Some i) = remove wins i

-- the claim of which a completion tells
abbrev pub claim_in : Option Win → Option SlotName
claim_in None = None
claim_in (Some x) = x.claim

-- the same, where there is a place
abbrev pub claim_at : List Win → Option ℕ → Option SlotName
claim_at wins None = None
claim_at wins (Some i) = claim_in (slice_get wins i)

-- A Reap takes the completion that waits longest in its queue.
abbrev pub lane_entries_reaped : ℕ → LaneEntriesState → LaneEntriesState
lane_entries_reaped queue s = record s { wins = wins_without s.wins (win_place queue s.wins) }

-- the claim of whose success a Reap tells
abbrev pub claim_reaped : ℕ → LaneEntriesState → Option SlotName
claim_reaped queue s = claim_at s.wins (win_place queue s.wins)
