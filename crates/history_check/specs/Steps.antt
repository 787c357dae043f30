-- What one more entry makes of what is kept.
use Rattle.std.specs.Bool.{beq}
use Rattle.std.specs.Prelude.{Bool, List, None, Option, Some, false, is_some, not, true, ◌&&◌, ◌==◌, ◌||◌, ◌≡◌}
use Rattle.history_check.specs.Judged as rules
use Rattle.history_check.specs.Tables.{tables}
use Rattle.history_check.specs.Tables.{CheckedTicket}
use Rattle.history_check.specs.Taken.{tables_after}
use Rattle.nvme_model.specs.History.{Past}
use Rattle.nvme_model.specs.Operations.{is_exclusive, mode}
use Rattle.nvme_model.specs.declared.array.Range.{Range}
use Rattle.nvme_model.specs.declared.config.ConfigNumbers.{ConfigNumbers}
use Rattle.nvme_model.specs.declared.entry.GrantLine.{GrantLine}
use Rattle.range_reserve.specs.Reserved.{has_conflict}
use Rattle.range_reserve.specs.declared.held.HeldRange.{HeldRange}
use Rattle.nvme_model.specs.declared.entry.Entry.{Entry}
use Rattle.history_check.specs.Kept.{CheckerState, ShowsTables}

-- the answer is whether the entry may follow, and where it may the tables with it are shown
pub record Took (c : ConfigNumbers) (past : Past) (e : Entry) (b : Bool) (k : CheckerState) : Type 0 where
  pub answer : b ≡ rules.judged c (tables c past) e
  pub shows : b ≡ true → ShowsTables c (tables_after c (tables c past) e) k

-- ---- memory

-- an entry of this kind may need memory to be taken
abbrev pub needs_memory : Entry → Bool
needs_memory (Entry.Post p) = false
needs_memory (Entry.Reap r) = false
needs_memory _ = true

-- ---- a Grant

-- a Grant of a ticket that has this unit next, where these ranges are held
abbrev pub grant_by : CheckedTicket → Option Range → List HeldRange → GrantLine → Bool
grant_by f None held g = false
grant_by f (Some r) held g =
    not (f.differs || is_some f.unit) && not (has_conflict held r (mode f.ticket))
    && ((g.unit == f.opened) && ((r.slba == g.range.slba) && (r.blocks == g.range.blocks))
    && beq (is_exclusive g.mode) (is_exclusive (mode f.ticket)))
