-- Where a ticket stands: all that a machine has to know of it to go on.
use Rattle.std.specs.List.{filter, find, sum_by}
use Rattle.std.specs.Prelude.{Bool, List, None, Option, Some, [], drop, false, if◌then◌else◌, is_none, length, nat_le}
use Rattle.std.specs.Prelude.{option_map, slice_get, suc, take, zero, ℕ, ◌&&◌, ◌+◌, ◌++◌, ◌-◌, ◌==◌, ◌∷◌}
use Rattle.nvme_model.specs.Cut.{cut}
use Rattle.nvme_model.specs.EntryBytes.{slba}
use Rattle.nvme_model.specs.History.{Past}
use Rattle.nvme_model.specs.Medium.{medium}
use Rattle.nvme_model.specs.Open.{blocks_made, differed, grants_of, is_read_found, open_units}
use Rattle.nvme_model.specs.Operations.{op, units}
use Rattle.nvme_model.specs.Statuses.{compare_failure, failed_fused, success}
use Rattle.nvme_model.specs.Tickets.{Ticket, first_fields, in_flight, posts_of, ticket, tickets}
use Rattle.nvme_model.specs.declared.array.Range.{Range}
use Rattle.nvme_model.specs.declared.config.AtomicParameters.{AtomicParameters}
use Rattle.nvme_model.specs.declared.config.ConfigNumbers.{ConfigNumbers}
use Rattle.nvme_model.specs.declared.entry.Entry.{Entry}
use Rattle.nvme_model.specs.declared.entry.GrantLine.{GrantLine}
use Rattle.nvme_model.specs.declared.operation.Op.{Op}
use Rattle.nvme_model.specs.declared.status.Status.{Status}
use Rattle.nvme_model.specs.declared.status.Verdict.{Verdict}

-- from 1 to n
abbrev pub rising : ℕ → List ℕ
rising zero = []
rising (suc n) = rising n ++ suc n ∷ []

-- the tickets in flight, by rising number
abbrev pub flying : Past → List ℕ
flying past = filter (in_flight past) (rising (tickets past))

-- what the Block entries of ticket t have read, in order, each block as it then lay in the volume
abbrev pub bytes_read : Past → ℕ → List ℕ
bytes_read [] t = []
bytes_read (Entry.Block b ∷ past) t =
    bytes_read past t ++ (if (b.ticket == t) && is_read_found b.found then medium past b.lba else [])
bytes_read (_ ∷ past) t = bytes_read past t

-- a unit that is granted and hasn't ended, and how many of its Block entries are made
pub record OpenUnit : Type 0 where
  pub line : GrantLine
  pub made : ℕ

-- how far this unit has come
abbrev pub unit_of : Past → GrantLine → OpenUnit
unit_of past g = record { line = g; made = length (blocks_made past g.ticket g.unit) }

-- the open unit of ticket t
abbrev pub open_unit : Past → ℕ → Option OpenUnit
open_unit past t = option_map (unit_of past) (find (λ g. g.ticket == t) (open_units past))

-- where a ticket stands
pub record Standing : Type 0 where
  pub ticket : Ticket
  -- how many of its units were opened, and the one that is open
  pub opened : ℕ
  pub unit : Option OpenUnit
  -- a `differs` ended it
  pub differs : Bool
  -- how many of its completions were posted
  pub posts : ℕ
  -- what it has read so far
  pub read : List ℕ

-- how ticket t stands in a history
abbrev pub standing : Past → ℕ → Standing
standing past t =
    record {
      ticket = ticket past t;
      opened = grants_of past t;
      unit = open_unit past t;
      differs = differed past t;
      posts = posts_of past t;
      read = bytes_read past t;
    }

-- where a ticket stands that was just fetched
abbrev pub fresh_standing : Ticket → Standing
fresh_standing k = record { ticket = k; opened = 0; unit = None; differs = false; posts = 0; read = [] }

-- the blocks of the units that were opened, and of those that weren't
abbrev pub had : ConfigNumbers → Standing → ℕ
had c s = sum_by (λ r. r.blocks) (take s.opened (units c s.ticket))

-- how many blocks the units have that aren't opened yet
abbrev pub remaining : ConfigNumbers → Standing → ℕ
remaining c s = sum_by (λ r. r.blocks) (drop s.opened (units c s.ticket))

-- the blocks of which no unit was opened; none after a `differs`
abbrev pub blocks_left : ConfigNumbers → Standing → Range
blocks_left c s = record {
  slba = slba (first_fields s.ticket) + had c s;
  blocks = if s.differs then 0
      else remaining c s;
}

-- the unit that is opened next of these blocks
abbrev pub next_of : AtomicParameters → Option Op → Range → Option Range
next_of u None r = None
next_of u (Some Op.Pair) r = if r.blocks == 0 then None else Some r
next_of u (Some o) r = slice_get (cut u r.slba r.blocks) 0

-- these blocks without the first n
abbrev pub without : Range → ℕ → Range
without r n = record { slba = r.slba + n; blocks = r.blocks - n }

-- its units have all ended
abbrev pub has_run : ConfigNumbers → Standing → Bool
has_run c s = nat_le (length (units c s.ticket)) s.opened && is_none s.unit

-- what is owed after a `differs`, and without one
abbrev pub on_differs : Op → List Status
on_differs Op.Pair = compare_failure ∷ failed_fused ∷ []
on_differs _ = compare_failure ∷ []

-- what an operation owes where each of its units has said yes: of a pair one status for each command
abbrev pub on_success : Op → List Status
on_success Op.Pair = success ∷ success ∷ []
on_success _ = success ∷ []

-- the statuses of a ticket that passed its checks
abbrev pub owed_running : ConfigNumbers → Standing → Option Op → List Status
owed_running c s None = success ∷ []
owed_running c s (Some o) = if s.differs then on_differs o else (if has_run c s then on_success o else [])

-- all statuses of a ticket, once they are owed, by where it stands
abbrev pub owed_by_standing : ConfigNumbers → Standing → Verdict → List Status
owed_by_standing c s (Verdict.SingleFailed f) = f ∷ []
owed_by_standing c s (Verdict.PairFailed f g) = f ∷ g ∷ []
owed_by_standing c s _ = owed_running c s (op s.ticket)

-- those that aren't posted yet
abbrev pub still_owed : ConfigNumbers → Standing → List Status
still_owed c s = drop s.posts (owed_by_standing c s s.ticket.verdict)
