-- The contents of blocks as a list keeps them, and answers as they are kept.
use Rattle.std.specs.Prelude.{false, Bool, List, None, Option, Some, [], get_or, ℕ, ◌&&◌, ◌+◌, ◌++◌, ◌%◌, ◌<◌, ◌==◌}
use Rattle.std.specs.Prelude.{◌≡◌, ◌||◌, if◌then◌else◌, length, not, bytes_eq}
use Rattle.nvme_model.specs.Answered.{may_find}
use Rattle.nvme_model.specs.Array.{has_block}
use Rattle.nvme_model.specs.EntryBytes.{cqe_bytes}
use Rattle.nvme_model.specs.declared.entry.PostLine.{PostLine}
use Rattle.nvme_model.specs.declared.status.Status.{Status}
use Rattle.nvme_model.specs.History.{Past}
use Rattle.nvme_model.specs.Operations.{op, write_data}
use Rattle.nvme_model.specs.Value.{value}
use Rattle.nvme_model.specs.declared.array.Range.{Range}
use Rattle.nvme_model.specs.Tickets.{Ticket, cids}
use Rattle.nvme_model.specs.declared.entry.BlockLine.{BlockLine}
use Rattle.history_check.specs.Effects.{word_of}
use Rattle.history_check.specs.Judged.{are_right, checked_data}
use Rattle.history_check.specs.Tables.{CheckedTicket, CheckedUnit}

-- block l of this list
abbrev pub contents_in : List (List ℕ) → ℕ → List ℕ
contents_in blocks l = get_or blocks l []

-- whether a Block fits the open unit of a ticket with so many effects, where these answers are right
abbrev pub fits_unit : Ticket → ℕ → CheckedUnit → Option (List Bool) → BlockLine → Bool
fits_unit k placed u right b =
    (b.unit == u.line.unit)
    && (b.lba == u.line.range.slba + u.made % u.line.range.blocks)
    && may_find (op k) u.line.range.blocks u.made b.found
    && (not b.effect || (b.unit == placed))
    && are_right right (u.said ++ word_of b.found)

-- the first of them that is there
abbrev pub first_some : {X : Type 0} → Option X → Option X → Option X
first_some None other = other
first_some (Some x) other = Some x

-- the list shows what each block of a history is
abbrev pub ShowsBlocks : Past → List (List ℕ) → Type 0
ShowsBlocks past blocks = (l : ℕ) → l < length blocks → contents_in blocks l ≡ value past l

-- with the data of a ticket in the blocks of a range
abbrev pub written_in : (ℕ → List ℕ) → Ticket → Range → ℕ → List ℕ
written_in contents k r l = if has_block r l then write_data k l else contents l

-- whether a Post says what a ticket owes next, by the head and the phase of its rings
abbrev pub post_fits_at : ℕ → ℕ → CheckedTicket → PostLine → Option Status → Bool
post_fits_at head tag f p None = false
post_fits_at head tag f p (Some s) =
    bytes_eq p.cqe (cqe_bytes head f.ticket.queue (get_or (cids f.ticket) f.posts 0) tag s)
    && bytes_eq p.payload (checked_data f s)
