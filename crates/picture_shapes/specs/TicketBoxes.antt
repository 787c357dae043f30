-- The tickets, each from its Fetch to its last Post, and their units, each from its Grant to its last Block.
use Rattle.std.specs.Prelude.{Bool, List, None, Option, Some, [], if◌then◌else◌, nat_le, remove, slice_get}
use Rattle.std.specs.Prelude.{slice_set, ℕ, ◌++◌, ◌-◌, ◌==◌, ◌∷◌}
use Rattle.std.specs.List.{position}
use Rattle.nvme_model.specs.Verdict.{taken_entries}
use Rattle.nvme_model.specs.declared.entry.BlockLine.{BlockLine}
use Rattle.nvme_model.specs.declared.entry.Entry.{Entry}
use Rattle.nvme_model.specs.declared.entry.FetchLine.{FetchLine}
use Rattle.nvme_model.specs.declared.entry.GrantLine.{GrantLine}
use Rattle.nvme_model.specs.declared.entry.PostLine.{PostLine}
use Rattle.picture_shapes.specs.Rows.{row_taken, rows_freed, rows_taken}
use Rattle.picture_shapes.specs.declared.rows.LaneRow.{LaneRow}
use Rattle.picture_shapes.specs.declared.ticket_boxes.OpenTicket.{OpenTicket}
use Rattle.picture_shapes.specs.declared.ticket_boxes.TicketBox.{TicketBox}
use Rattle.picture_shapes.specs.declared.ticket_boxes.UnitBox.{UnitBox}

-- The tickets so far: their rows, those in flight by rising number, those that aren't, and the units.
pub record TicketBoxesState : Type 0 where
  pub rows : List LaneRow
  pub flying : List OpenTicket
  pub done : List TicketBox
  pub units : List UnitBox

-- none
abbrev pub no_tickets : TicketBoxesState
no_tickets = record { rows = []; flying = []; done = []; units = [] }

-- where a ticket in flight is
abbrev pub flying_place : ℕ → List OpenTicket → Option ℕ
flying_place ticket flying = position (λ x. x.ticket.ticket == ticket) flying

-- ---- Fetch

-- a ticket that was fetched at this place, in this row
abbrev pub new_flying : (place row : ℕ) → FetchLine → OpenTicket
new_flying place row f =
    record {
      ticket = record { row = row; ticket = f.ticket; queue = f.queue; fetched = place; posted = None };
      owed = taken_entries f.verdict;
      unit = None;
    }

-- A ticket takes the first free row, and its box begins at its Fetch.
abbrev pub tickets_fetched : ℕ → FetchLine → TicketBoxesState → TicketBoxesState
tickets_fetched place f s =
    record s {
      rows = rows_taken 0 s.rows;
      flying = s.flying ++ new_flying place (row_taken 0 s.rows) f ∷ [];
    }

-- ---- Grant

-- a unit that ends at `from` or behind it
abbrev pub unit_shown : ℕ → Option UnitBox → List UnitBox
unit_shown from None = []
unit_shown from (Some u) = if nat_le from u.last then u ∷ [] else []

-- a unit that begins at this place
abbrev pub new_unit : (place row : ℕ) → GrantLine → UnitBox
new_unit place row g =
    record {
      row = row;
      unit = g.unit;
      slba = g.range.slba;
      blocks = g.range.blocks;
      granted = place;
      last = place;
    }

-- the unit of a ticket begins, and the one before it is kept
abbrev pub granted_there : (from place i : ℕ) → GrantLine → TicketBoxesState → Option OpenTicket → TicketBoxesState
granted_there from place i g s None = s
granted_there from place i g s (Some x) =
    record s {
      flying = slice_set s.flying i (record x { unit = Some (new_unit place x.ticket.row g) });
      units = s.units ++ unit_shown from x.unit;
    }

-- the same, where there is a place
abbrev pub granted_at : (from place : ℕ) → GrantLine → TicketBoxesState → Option ℕ → TicketBoxesState
granted_at from place g s None = s
granted_at from place g s (Some i) = granted_there from place i g s (slice_get s.flying i)

-- A Grant begins a unit of its ticket.
abbrev pub tickets_granted : (from place : ℕ) → GrantLine → TicketBoxesState → TicketBoxesState
tickets_granted from place g s = granted_at from place g s (flying_place g.ticket s.flying)

-- ---- Block

-- a unit with a Block at this place
abbrev pub unit_made : ℕ → Option UnitBox → Option UnitBox
unit_made place None = None
unit_made place (Some u) = Some (record u { last = place })

-- the tickets in flight with that
abbrev pub made_there : (place i : ℕ) → List OpenTicket → Option OpenTicket → List OpenTicket
made_there place i flying None = flying
made_there place i flying (Some x) = slice_set flying i (record x { unit = unit_made place x.unit })

-- the same, where there is a place
abbrev pub made_at : ℕ → List OpenTicket → Option ℕ → List OpenTicket
made_at place flying None = flying
made_at place flying (Some i) = made_there place i flying (slice_get flying i)

-- A Block makes the unit of its ticket longer.
abbrev pub tickets_made : ℕ → BlockLine → TicketBoxesState → TicketBoxesState
tickets_made place b s = record s { flying = made_at place s.flying (flying_place b.ticket s.flying) }

-- ---- Post

-- the ticket ends at this place, and is kept from `from` on
abbrev pub closed_there : (from place i : ℕ) → TicketBoxesState → Option OpenTicket → TicketBoxesState
closed_there from place i s None = s
closed_there from place i s (Some x) =
    record {
      rows = rows_freed 0 x.ticket.row s.rows;
      flying = remove s.flying i;
      done = if nat_le from place then s.done ++ (record x.ticket { posted = Some place }) ∷ [] else s.done;
      units = s.units ++ unit_shown from x.unit;
    }

-- the ticket at this index ends
abbrev pub tickets_closed : (from place i : ℕ) → TicketBoxesState → TicketBoxesState
tickets_closed from place i s = closed_there from place i s (slice_get s.flying i)

-- whether a ticket owes more than one completion
abbrev pub owes_more : OpenTicket → Bool
owes_more x = nat_le 2 x.owed

-- the ticket owes one completion fewer, and ends where it owes none
abbrev pub posted_there : (from place i : ℕ) → TicketBoxesState → Option OpenTicket → TicketBoxesState
posted_there from place i s None = s
posted_there from place i s (Some x) =
    if owes_more x then record s { flying = slice_set s.flying i (record x { owed = x.owed - 1 }) }
    else tickets_closed from place i s

-- the same, where there is a place
abbrev pub posted_at : (from place : ℕ) → TicketBoxesState → Option ℕ → TicketBoxesState
posted_at from place s None = s
posted_at from place s (Some i) = posted_there from place i s (slice_get s.flying i)

-- A Post is one of those that its ticket owes, and its last one ends the ticket's box.
abbrev pub tickets_posted : (from place : ℕ) → PostLine → TicketBoxesState → TicketBoxesState
tickets_posted from place p s = posted_at from place s (flying_place p.ticket s.flying)

-- ---- an entry of a history

-- The tickets behind the entry at this place, of a picture that begins at `from`.
abbrev pub tickets_after : (from place : ℕ) → Entry → TicketBoxesState → TicketBoxesState
tickets_after from place (Entry.Publish p) s = s
tickets_after from place (Entry.Fetch f) s = tickets_fetched place f s
tickets_after from place (Entry.Grant g) s = tickets_granted from place g s
tickets_after from place (Entry.Block b) s = tickets_made place b s
tickets_after from place (Entry.Post p) s = tickets_posted from place p s
tickets_after from place (Entry.Reap r) s = s
