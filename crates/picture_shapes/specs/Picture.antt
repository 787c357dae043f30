-- The picture of a history: a column a step, and what is drawn in the rows below.
use Rattle.std.specs.Prelude.{Bool, List, None, Option, Some, [], false, if◌then◌else◌, length, nat_le, nat_lt, ℕ}
use Rattle.std.specs.Prelude.{◌++◌, ◌+◌, ◌∷◌}
use Rattle.nvme_model.specs.FirstBad.{first_bad_of}
use Rattle.nvme_model.specs.History.{Past}
use Rattle.nvme_model.specs.declared.config.ConfigNumbers.{ConfigNumbers}
use Rattle.nvme_model.specs.declared.entry.Entry.{Entry}
use Rattle.history_words.specs.Told.{entry_told}
use Rattle.picture_shapes.specs.Lanes.{LanesState, lanes_after, no_lanes}
use Rattle.picture_shapes.specs.Bars.{BarsState, bars_after, no_bars}
use Rattle.picture_shapes.specs.TicketBoxes.{TicketBoxesState, no_tickets, tickets_after}
use Rattle.picture_shapes.specs.declared.head.Head.{Head}
use Rattle.picture_shapes.specs.declared.head.EntryKind.{EntryKind}
use Rattle.picture_shapes.specs.declared.picture.Aspect.{Aspect}
use Rattle.picture_shapes.specs.declared.picture.BadColumn.{BadColumn}
use Rattle.picture_shapes.specs.declared.picture.Subject.{Subject}

-- A picture of the entries at the places from `from` to `to`: of what it is, its heads, one an entry, its bars, its
-- tickets, its lanes of blocks and of slots, and the first bad step, where that is among them.
pub record PictureState : Type 0 where
  pub from : ℕ
  pub to : ℕ
  pub subject : Subject
  pub last : ℕ
  pub heads : List Head
  pub bars : BarsState
  pub tickets : TicketBoxesState
  pub lanes : LanesState
  pub bad : Option BadColumn

-- nothing is drawn yet
abbrev pub no_picture : (from to : ℕ) → Aspect → PictureState
no_picture from to aspect =
    record {
      from = from;
      to = to;
      subject = aspect.subject;
      last = 0;
      heads = [];
      bars = no_bars;
      tickets = no_tickets;
      lanes = no_lanes aspect.lanes;
      bad = None;
    }

-- the kind of an entry
abbrev pub entry_kind : Entry → EntryKind
entry_kind (Entry.Publish p) = EntryKind.Publish
entry_kind (Entry.Fetch f) = EntryKind.Fetch
entry_kind (Entry.Grant g) = EntryKind.Grant
entry_kind (Entry.Block b) = EntryKind.Block
entry_kind (Entry.Post p) = EntryKind.Post
entry_kind (Entry.Reap r) = EntryKind.Reap

-- whether a unit takes effect at the entry
abbrev pub is_marked : Entry → Bool
is_marked (Entry.Block b) = b.effect
is_marked e = false

-- The head of an entry's column: its place, its kind, its mark and its line in words.
abbrev pub head_of : ℕ → Entry → Head
head_of place e = record { place = place; kind = entry_kind e; mark = is_marked e; words = entry_told e }

-- the picture with that head, where its place is among those that are drawn
abbrev pub with_head : ℕ → Entry → PictureState → PictureState
with_head place e s =
    record s { heads = if nat_lt place s.from then s.heads else s.heads ++ head_of place e ∷ [] }

-- The picture with an entry that may follow.
abbrev pub picture_after : ConfigNumbers → ℕ → Entry → PictureState → PictureState
picture_after c place e s =
    if nat_lt s.to place then s
    else record (with_head place e s) {
      last = place;
      bars = bars_after c s.from place e s.bars;
      tickets = tickets_after s.from place e s.tickets;
      lanes = lanes_after c s.from place e s.lanes;
    }

-- the first bad step, where its place is among those that are drawn
abbrev pub bad_within : (from place : ℕ) → List ℕ → Option BadColumn → Option BadColumn
bad_within from place words bad =
    if nat_le from place then Some (record { place = place; words = words }) else bad

-- The picture with the first entry that may not follow, of which its head and these words are drawn.
abbrev pub picture_ended : List ℕ → ℕ → Entry → PictureState → PictureState
picture_ended words place e s =
    if nat_lt s.to place then s
    else record (with_head place e s) { last = place; bad = bad_within s.from place words s.bad }

-- an entry behind the first bad one, an entry that may follow, or the first bad one
abbrev pub picture_step : ConfigNumbers → List ℕ → (before now : Option ℕ) → ℕ → Entry → PictureState → PictureState
picture_step c words (Some k) now place e s = s
picture_step c words None None place e s = picture_after c place e s
picture_step c words None (Some k) place e s = picture_ended words place e s

-- The picture of a history from one place to another, up to and with its first bad step, with these words for that.
abbrev pub picture_of : ConfigNumbers → (from to : ℕ) → Aspect → List ℕ → Past → PictureState
picture_of c from to aspect words [] = no_picture from to aspect
picture_of c from to aspect words (e ∷ past) =
    picture_step c words (first_bad_of c past) (first_bad_of c (e ∷ past)) (length past + 1) e
    (picture_of c from to aspect words past)
