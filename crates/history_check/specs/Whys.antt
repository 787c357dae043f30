-- The first rule that an entry breaks, by the tables.
use Rattle.std.specs.Prelude.{Bool, List, None, Option, Some, false, if◌then◌else◌, is_some, option_map, slice_get}
use Rattle.std.specs.Prelude.{true, ◌%◌, ◌||◌}
use Rattle.broken_rules.specs.Broken.{refused_or}
use Rattle.broken_rules.specs.Rows.{fetch_broken, grant_broken, reap_broken}
use Rattle.broken_rules.specs.declared.broken.Broken.{Broken}
use Rattle.history_check.specs.Explained.{block_wrong_by, post_wrong_at}
use Rattle.history_check.specs.Judged.{next_by, checked_owed, refusal_by, checked_verdict}
use Rattle.history_check.specs.Tables.{CheckedTicket, Tables}
use Rattle.nvme_model.specs.Completions.{phase}
use Rattle.nvme_model.specs.Config.{completion_queue}
use Rattle.nvme_model.specs.History.{step_of}
use Rattle.nvme_model.specs.Operations.{mode}
use Rattle.nvme_model.specs.declared.array.Range.{Range}
use Rattle.nvme_model.specs.declared.config.ConfigNumbers.{ConfigNumbers}
use Rattle.nvme_model.specs.declared.entry.Entry.{Entry}
use Rattle.nvme_model.specs.declared.entry.GrantLine.{GrantLine}
use Rattle.nvme_model.specs.declared.entry.PostLine.{PostLine}
use Rattle.nvme_model.specs.declared.refusal.Why.{Why}
use Rattle.range_reserve.specs.Reserved.{has_conflict}
use Rattle.range_reserve.specs.declared.held.HeldRange.{HeldRange}

-- what an entry says wrongly, where its step isn't refused
abbrev pub wrong_by : ConfigNumbers → Tables → Entry → Option Broken
wrong_by c s (Entry.Publish p) = None
wrong_by c s (Entry.Fetch f) = fetch_broken f s.tickets (checked_verdict c s f.queue)
wrong_by c s (Entry.Grant g) =
    grant_broken g (s.flight g.ticket).opened (next_by c (s.flight g.ticket)) (mode (s.flight g.ticket).ticket)
wrong_by c s (Entry.Block b) = block_wrong_by s.value (s.flight b.ticket) b (s.flight b.ticket).unit
wrong_by c s (Entry.Post p) =
    let f = s.flight p.ticket in
    let q = f.ticket.queue in
    post_wrong_at (s.fetched q % c.sq_size) (phase (s.posts (completion_queue c q)) c.cq_size) f p
    (slice_get (checked_owed c f) f.posts)
wrong_by c s (Entry.Reap r) = reap_broken r (option_map (λ (p : PostLine). p.cqe) (slice_get (s.unreaped r.queue) 0))

-- its refusal, or that
abbrev pub broken_by : ConfigNumbers → Tables → Entry → Option Broken
broken_by c s e = refused_or (refusal_by c s (step_of e)) (wrong_by c s e)

-- an entry of this kind may need memory to be explained
abbrev pub why_needs_memory : Entry → Bool
why_needs_memory (Entry.Block b) = true
why_needs_memory _ = false

-- a Grant of a ticket in flight that has this unit next, where these ranges are held
abbrev pub grant_why : CheckedTicket → Option Range → List HeldRange → GrantLine → Option Broken
grant_why f None held g = Some (Broken.Refused Why.WrongState)
grant_why f (Some r) held g =
    if f.differs || is_some f.unit then Some (Broken.Refused Why.WrongState)
    else (if has_conflict held r (mode f.ticket) then Some (Broken.Refused Why.Conflict)
    else grant_broken g f.opened (Some r) (mode f.ticket))
