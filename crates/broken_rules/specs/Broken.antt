-- The first rule that an entry breaks behind a history.
use Rattle.std.specs.List.{find}
use Rattle.std.specs.Prelude.{None, Option, Some, if◌then◌else◌, is_some, length, option_map, slice_get, ◌%◌, ◌+◌, ◌==◌}
use Rattle.std.specs.Prelude.{◌∷◌}
use Rattle.nvme_model.specs.Answered.{right_answers}
use Rattle.nvme_model.specs.Completions.{completion, posted_completions, reaped_count}
use Rattle.nvme_model.specs.History.{Past, step_of}
use Rattle.nvme_model.specs.Legal.{legal}
use Rattle.nvme_model.specs.Open.{blocks_made, grants_of, open_units}
use Rattle.nvme_model.specs.Operations.{mode, op}
use Rattle.nvme_model.specs.Owed.{completion_data, owed}
use Rattle.nvme_model.specs.Placed.{effect, may_be_effect}
use Rattle.nvme_model.specs.Refusals.{next_unit, refusal}
use Rattle.nvme_model.specs.Tickets.{next_verdict, posts_of, ticket, tickets}
use Rattle.nvme_model.specs.declared.config.ConfigNumbers.{ConfigNumbers}
use Rattle.nvme_model.specs.declared.entry.BlockLine.{BlockLine}
use Rattle.nvme_model.specs.declared.entry.Entry.{Entry}
use Rattle.nvme_model.specs.declared.entry.GrantLine.{GrantLine}
use Rattle.nvme_model.specs.declared.entry.PostLine.{PostLine}
use Rattle.nvme_model.specs.declared.refusal.Why.{Why}
use Rattle.nvme_model.specs.declared.status.Status.{Status}
use Rattle.broken_rules.specs.Rows.{block_broken, fetch_broken, grant_broken, post_broken, reap_broken, word_due}
use Rattle.broken_rules.specs.declared.broken.Broken.{Broken}
use Rattle.broken_rules.specs.declared.rows.BlockDue.{BlockDue}

-- what is due of a Block of the open unit g
abbrev pub block_due : Past → BlockLine → GrantLine → BlockDue
block_due past b g =
    let k = ticket past b.ticket in
    let made = length (blocks_made past g.ticket g.unit) in
    let after = Entry.Block b ∷ past in
    record {
      unit = g.unit;
      lba = g.range.slba + made % g.range.blocks;
      word = word_due (op k) g.range.blocks made;
      marked = is_some (effect past b.ticket b.unit);
      may_mark = may_be_effect past b.ticket b.unit;
      earlier = right_answers (effect after b.ticket b.unit) k (blocks_made past b.ticket b.unit);
      answers = right_answers (effect after b.ticket b.unit) k (blocks_made after b.ticket b.unit);
    }

-- a Block of the ticket whose open unit is this
abbrev pub block_wrong : Past → BlockLine → Option GrantLine → Option Broken
block_wrong past b None = Some (Broken.Refused Why.WrongState)
block_wrong past b (Some g) = block_broken b (block_due past b g)

-- a Post of a ticket that owes this status next
abbrev pub post_wrong : ConfigNumbers → Past → PostLine → Option Status → Option Broken
post_wrong c past p None = Some (Broken.NothingOwed p.ticket)
post_wrong c past p (Some s) = post_broken p (completion c past p.ticket s) (completion_data c past p.ticket s)

-- what an entry says wrongly, where its step isn't refused
abbrev pub wrong : ConfigNumbers → Past → Entry → Option Broken
wrong c past (Entry.Publish p) = None
wrong c past (Entry.Fetch f) = fetch_broken f (tickets past) (next_verdict c past f.queue)
wrong c past (Entry.Grant g) =
    grant_broken g (grants_of past g.ticket) (next_unit c past g.ticket) (mode (ticket past g.ticket))
wrong c past (Entry.Block b) = block_wrong past b (find (λ g. g.ticket == b.ticket) (open_units past))
wrong c past (Entry.Post p) = post_wrong c past p (slice_get (owed c past p.ticket) (posts_of past p.ticket))
wrong c past (Entry.Reap r) =
    reap_broken r
    (option_map (λ (p : PostLine). p.cqe) (slice_get (posted_completions c past r.queue) (reaped_count past r.queue)))

-- its refusal, or what else is wrong
abbrev pub refused_or : Option Why → Option Broken → Option Broken
refused_or None more = more
refused_or (Some why) more = Some (Broken.Refused why)

-- The first rule that an entry breaks: those before it are legal, its step isn't refused, and it says what its step
-- does.
abbrev pub first_broken : ConfigNumbers → Past → Entry → Option Broken
first_broken c past e =
    if legal c past then refused_or (refusal c past (step_of e)) (wrong c past e) else Some Broken.Earlier
