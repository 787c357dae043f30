-- What is wrong with a Block or a Post, by its ticket as it is kept.
use Rattle.std.specs.Prelude.{Bool, List, None, Option, Some, get_or, nat_lt, ℕ, ◌%◌, ◌+◌, ◌++◌, ◌==◌}
use Rattle.nvme_model.specs.EntryBytes.{cqe_bytes}
use Rattle.nvme_model.specs.Operations.{op}
use Rattle.nvme_model.specs.Tickets.{Ticket, cids}
use Rattle.nvme_model.specs.declared.entry.BlockLine.{BlockLine}
use Rattle.nvme_model.specs.declared.entry.PostLine.{PostLine}
use Rattle.nvme_model.specs.declared.refusal.Why.{Why}
use Rattle.nvme_model.specs.declared.status.Status.{Status}
use Rattle.broken_rules.specs.Rows.{block_broken, post_broken, word_due}
use Rattle.broken_rules.specs.declared.broken.Broken.{Broken}
use Rattle.broken_rules.specs.declared.rows.BlockDue.{BlockDue}
use Rattle.history_check.specs.Effects.{word_of}
use Rattle.history_check.specs.Judged.{are_right, checked_data, right_after}
use Rattle.history_check.specs.Tables.{CheckedTicket, CheckedUnit}

-- what is due of a Block of the open unit of a ticket with so many effects, where these answers are right
abbrev pub due_in : Ticket → ℕ → CheckedUnit → Option (List Bool) → BlockLine → BlockDue
due_in k placed u right b =
    record {
      unit = u.line.unit;
      lba = u.line.range.slba + u.made % u.line.range.blocks;
      word = word_due (op k) u.line.range.blocks u.made;
      marked = nat_lt b.unit placed;
      may_mark = b.unit == placed;
      earlier = are_right right u.said;
      answers = are_right right (u.said ++ word_of b.found);
    }

-- a Block of a ticket with this open unit, at these contents
abbrev pub block_wrong_by : (ℕ → List ℕ) → CheckedTicket → BlockLine → Option CheckedUnit → Option Broken
block_wrong_by contents f b None = Some (Broken.Refused Why.WrongState)
block_wrong_by contents f b (Some u) = block_broken b (due_in f.ticket f.placed u (right_after contents f b u) b)

-- a Post of a ticket that owes this status next, by the head and the phase of its rings
abbrev pub post_wrong_at : ℕ → ℕ → CheckedTicket → PostLine → Option Status → Option Broken
post_wrong_at head tag f p None = Some (Broken.NothingOwed p.ticket)
post_wrong_at head tag f p (Some s) =
    post_broken p (cqe_bytes head f.ticket.queue (get_or (cids f.ticket) f.posts 0) tag s) (checked_data f s)
