-- The bars of entries: each from its Publish to its Reap.
use Rattle.std.specs.Prelude.{Bool, List, None, Option, Some, [], false, if◌then◌else◌, nat_lt, remove, slice_get}
use Rattle.std.specs.Prelude.{slice_set, ℕ, ◌++◌, ◌==◌, ◌∷◌}
use Rattle.std.specs.List.{position}
use Rattle.nvme_model.specs.Codes.{StatusCode}
use Rattle.nvme_model.specs.Config.{completion_queue}
use Rattle.nvme_model.specs.EntryBytes.{cqe_fields, sqe_fields}
use Rattle.nvme_model.specs.Statuses.{status}
use Rattle.nvme_model.specs.Verdict.{taken_entries}
use Rattle.nvme_model.specs.declared.config.ConfigNumbers.{ConfigNumbers}
use Rattle.nvme_model.specs.declared.entry.BlockLine.{BlockLine}
use Rattle.nvme_model.specs.declared.entry.Entry.{Entry}
use Rattle.nvme_model.specs.declared.entry.FetchLine.{FetchLine}
use Rattle.nvme_model.specs.declared.entry.PostLine.{PostLine}
use Rattle.nvme_model.specs.declared.entry.ReapLine.{ReapLine}
use Rattle.nvme_model.specs.declared.operation.Found.{Found}
use Rattle.nvme_model.specs.declared.submission.Submission.{Submission}
use Rattle.history_words.specs.Commands.{command_told}
use Rattle.history_words.specs.Completions.{completion_told}
use Rattle.picture_shapes.specs.Rows.{row_taken, rows_freed, rows_taken}
use Rattle.picture_shapes.specs.declared.bar.Bar.{Bar}
use Rattle.picture_shapes.specs.declared.bar.Cell.{Cell}
use Rattle.picture_shapes.specs.declared.bar.OpenBar.{OpenBar}
use Rattle.picture_shapes.specs.declared.bar.Posting.{Posting}
use Rattle.picture_shapes.specs.declared.bar.BarStage.{BarStage}
use Rattle.picture_shapes.specs.declared.bar.BarStage.TheVariants.{Fetched, Posted, Published, Second}
use Rattle.picture_shapes.specs.declared.rows.LaneRow.{LaneRow}

-- The bars so far: the rows of the submission queues and of the completion queues, the entries that aren't reaped, in
-- the order in which they were published or else posted, those that are, and the cells of their blocks.
pub record BarsState : Type 0 where
  pub rows : List LaneRow
  pub waits : List LaneRow
  pub pending : List OpenBar
  pub done : List Bar
  pub cells : List Cell

-- none
abbrev pub no_bars : BarsState
no_bars = record { rows = []; waits = []; pending = []; done = []; cells = [] }

-- ---- where an entry is

-- whether two stages are the same
abbrev pub same_stage : BarStage → BarStage → Bool
same_stage (Published q) (Published r) = q == r
same_stage (Fetched t) (Fetched u) = t == u
same_stage (Second t) (Second u) = t == u
same_stage (Posted q) (Posted r) = q == r
same_stage s r = false

-- whether an entry has come so far
abbrev pub is_at : BarStage → OpenBar → Bool
is_at stage x = same_stage x.stage stage

-- where the first entry is that has come so far
abbrev pub stage_place : BarStage → List OpenBar → Option ℕ
stage_place stage pending = position (is_at stage) pending

-- the first of two, where it is there
abbrev pub or_place : Option ℕ → Option ℕ → Option ℕ
or_place None other = other
or_place (Some i) other = Some i

-- where the first entry is that has come so far, or else so
abbrev pub either_place : BarStage → BarStage → List OpenBar → Option ℕ
either_place one other pending = or_place (stage_place one pending) (stage_place other pending)

-- ---- Publish

-- an entry that was published at this place, in this row
abbrev pub new_bar : ConfigNumbers → (place queue row : ℕ) → List ℕ → OpenBar
new_bar c place queue row words =
    record {
      stage = Published queue;
      bar = record {
        queue = queue;
        completions = completion_queue c queue;
        row = row;
        words = words;
        published = place;
        fetched = None;
        posted = None;
        reaped = None;
      };
    }

-- A published entry takes the first free row of its queue, and its bar begins at its Publish.
abbrev pub bar_published : ConfigNumbers → (place queue : ℕ) → Submission → BarsState → BarsState
bar_published c place queue x s =
    record s {
      rows = rows_taken queue s.rows;
      pending = s.pending
          ++ new_bar c place queue (row_taken queue s.rows) (command_told (sqe_fields x.entry)) ∷ [];
    }

-- so does each entry of a Publish
abbrev pub bars_published : ConfigNumbers → (place queue : ℕ) → List Submission → BarsState → BarsState
bars_published c place queue [] s = s
bars_published c place queue (x ∷ xs) s =
    bars_published c place queue xs (bar_published c place queue x s)

-- ---- Fetch

-- an entry that was fetched at this place
abbrev pub as_fetched : (place ticket : ℕ) → BarStage → OpenBar → OpenBar
as_fetched place ticket stage x =
    record {
      stage = stage;
      bar = record x.bar { fetched = Some (record { place = place; ticket = ticket }) };
    }

-- the list with an entry fetched
abbrev pub fetched_there : (place ticket : ℕ) → BarStage → List OpenBar → ℕ → Option OpenBar → List OpenBar
fetched_there place ticket stage pending i None = pending
fetched_there place ticket stage pending i (Some x) = slice_set pending i (as_fetched place ticket stage x)

-- the same, where there is a place
abbrev pub fetched_at : (place ticket : ℕ) → BarStage → List OpenBar → Option ℕ → List OpenBar
fetched_at place ticket stage pending None = pending
fetched_at place ticket stage pending (Some i) = fetched_there place ticket stage pending i (slice_get pending i)

-- The entry that waits first in a submission queue is fetched.
abbrev pub first_fetched : (queue place ticket : ℕ) → BarStage → List OpenBar → List OpenBar
first_fetched queue place ticket stage pending =
    fetched_at place ticket stage pending (stage_place (Published queue) pending)

-- A Fetch takes the entry that waits first in its queue, and of a pair the next too.
abbrev pub bars_fetched : ℕ → FetchLine → BarsState → BarsState
bars_fetched place f s =
    let one = first_fetched f.queue place f.ticket (Fetched f.ticket) s.pending in
    record s {
      pending =
          if taken_entries f.verdict == 2 then first_fetched f.queue place f.ticket (Second f.ticket) one else one;
    }

-- ---- Block

-- where the entry of a Block is: what is written is the second's of a pair, and all else the first's
abbrev pub bar_place_by_found : Found → ℕ → List OpenBar → Option ℕ
bar_place_by_found Found.Written ticket pending = either_place (Second ticket) (Fetched ticket) pending
bar_place_by_found found ticket pending = either_place (Fetched ticket) (Second ticket) pending

-- the same, by its line
abbrev pub bar_place_of_block : BlockLine → List OpenBar → Option ℕ
bar_place_of_block b pending = bar_place_by_found b.found b.ticket pending

-- the cell of a Block in the row of its entry
abbrev pub cell_of : ℕ → BlockLine → Option OpenBar → List Cell
cell_of place b None = []
cell_of place b (Some x) =
    record { row = x.bar.row; place = place; lba = b.lba; found = b.found; effect = b.effect } ∷ []

-- the same, where there is a place
abbrev pub cell_at : ℕ → BlockLine → List OpenBar → Option ℕ → List Cell
cell_at place b pending None = []
cell_at place b pending (Some i) = cell_of place b (slice_get pending i)

-- A Block from `from` on has a cell, in the row of its entry.
abbrev pub bars_made : (from place : ℕ) → BlockLine → BarsState → BarsState
bars_made from place b s =
    record s {
      cells =
          if nat_lt place from then s.cells
          else s.cells ++ cell_at place b s.pending (bar_place_of_block b s.pending);
    }

-- ---- Post

-- the status of a completion
abbrev pub status_of : List ℕ → StatusCode
status_of cqe = let fields = cqe_fields cqe in status fields.sct fields.sc

-- the post of a completion at this place, which waits in this row
abbrev pub posting : (place row : ℕ) → PostLine → Posting
posting place row p =
    record {
      place = place;
      row = row;
      cid = (cqe_fields p.cqe).cid;
      status = status_of p.cqe;
      words = completion_told (cqe_fields p.cqe);
    }

-- an entry whose completion was posted goes behind the others
abbrev pub posted_there : ℕ → PostLine → ℕ → BarsState → Option OpenBar → BarsState
posted_there place p i s None = s
posted_there place p i s (Some x) =
    let queue = x.bar.completions in
    record s {
      waits = rows_taken queue s.waits;
      pending = remove s.pending i
          ++ (record {
            stage = Posted queue;
            bar = record x.bar { posted = Some (posting place (row_taken queue s.waits) p) };
          }) ∷ [];
    }

-- the same, where there is a place
abbrev pub posted_at : ℕ → PostLine → BarsState → Option ℕ → BarsState
posted_at place p s None = s
posted_at place p s (Some i) = posted_there place p i s (slice_get s.pending i)

-- A Post is for the first entry of its ticket that waits for one, or else the second.
abbrev pub bars_posted : ℕ → PostLine → BarsState → BarsState
bars_posted place p s = posted_at place p s (either_place (Fetched p.ticket) (Second p.ticket) s.pending)

-- ---- Reap

-- the rows of completion queues without that of a completion
abbrev pub waits_freed : ℕ → Option Posting → List LaneRow → List LaneRow
waits_freed queue None waits = waits
waits_freed queue (Some p) waits = rows_freed queue p.row waits

-- the rows of an entry are given back
abbrev pub bar_freed : Bar → BarsState → BarsState
bar_freed b s =
    record s {
      rows = rows_freed b.queue b.row s.rows;
      waits = waits_freed b.completions b.posted s.waits;
    }

-- an entry that was reaped is kept, from `from` on
abbrev pub reaped_there : (from place i : ℕ) → BarsState → Option OpenBar → BarsState
reaped_there from place i s None = s
reaped_there from place i s (Some x) =
    let freed = bar_freed x.bar s in
    record freed {
      pending = remove s.pending i;
      done = if nat_lt place from then s.done else s.done ++ (record x.bar { reaped = Some place }) ∷ [];
    }

-- the same, where there is a place
abbrev pub reaped_at : (from place : ℕ) → BarsState → Option ℕ → BarsState
reaped_at from place s None = s
reaped_at from place s (Some i) = reaped_there from place i s (slice_get s.pending i)

-- A Reap ends the bar of the entry whose completion waits longest in its completion queue.
abbrev pub bars_reaped : (from place : ℕ) → ReapLine → BarsState → BarsState
bars_reaped from place r s = reaped_at from place s (stage_place (Posted r.queue) s.pending)

-- ---- an entry of a history

-- The bars behind the entry at this place, of a picture that begins at `from`.
abbrev pub bars_after : ConfigNumbers → (from place : ℕ) → Entry → BarsState → BarsState
bars_after c from place (Entry.Publish p) s = bars_published c place p.queue p.batch s
bars_after c from place (Entry.Fetch f) s = bars_fetched place f s
bars_after c from place (Entry.Grant g) s = s
bars_after c from place (Entry.Block b) s = bars_made from place b s
bars_after c from place (Entry.Post p) s = bars_posted place p s
bars_after c from place (Entry.Reap r) s = bars_reaped from place r s
