-- What an entry that may follow changes in the tables.
use Rattle.std.specs.List.{filter}
use Rattle.std.specs.Prelude.{Bool, List, None, Option, Some, [], drop, if◌then◌else◌, length, nat_le, nat_lt, not}
use Rattle.std.specs.Prelude.{take, ℕ, ◌&&◌, ◌+◌, ◌++◌, ◌<◌, ◌==◌, ◌||◌, ◌∷◌, ◌≡◌, ◌≤◌}
use Rattle.nvme_model.specs.Array.{has_block}
use Rattle.nvme_model.specs.Config.{completion_queue}
use Rattle.nvme_model.specs.Open.{is_differs, steps_needed}
use Rattle.nvme_model.specs.Operations.{has_compare, op, write_data}
use Rattle.nvme_model.specs.Tickets.{Ticket}
use Rattle.nvme_model.specs.Value.{all_equal, writes}
use Rattle.nvme_model.specs.Verdict
use Rattle.nvme_model.specs.declared.config.ConfigNumbers.{ConfigNumbers}
use Rattle.nvme_model.specs.declared.array.Range.{Range}
use Rattle.nvme_model.specs.declared.entry.BlockLine.{BlockLine}
use Rattle.nvme_model.specs.declared.entry.Entry.{Entry}
use Rattle.nvme_model.specs.declared.entry.FetchLine.{FetchLine}
use Rattle.nvme_model.specs.declared.entry.GrantLine.{GrantLine}
use Rattle.history_check.specs.Effects.{read_at, word_of}
use Rattle.history_check.specs.Judged.{right_after}
use Rattle.history_check.specs.Tables.{CheckedTicket, CheckedUnit, Tables, just_fetched}

-- this ticket has another flight
abbrev pub with_flight : (ℕ → CheckedTicket) → ℕ → CheckedTicket → ℕ → CheckedTicket
with_flight flights t f u = if u == t then f else flights u

-- ---- a Fetch

-- the ticket that a Fetch makes of what waits
abbrev pub fetched_by : Tables → FetchLine → Ticket
fetched_by s f =
    record {
      queue = f.queue;
      commands = take (Verdict.taken_entries f.verdict) (s.waiting f.queue);
      verdict = f.verdict;
    }

-- ---- a Grant

-- a ticket after a Grant
abbrev pub opened_flight : CheckedTicket → GrantLine → CheckedTicket
opened_flight f g =
    record f { opened = f.opened + 1; unit = Some (record { line = g; made = 0; said = []; right = None }) }

-- ---- a Block

-- the open unit has ended with this Block
abbrev pub ends_by : CheckedTicket → BlockLine → CheckedUnit → Bool
ends_by f b u = nat_le (steps_needed f.ticket u.line.range.blocks) (u.made + 1) || is_differs b.found

-- it has one more Block, and maybe its effect
abbrev pub unit_after : (ℕ → List ℕ) → CheckedTicket → BlockLine → CheckedUnit → CheckedUnit
unit_after contents f b u =
    record u { made = u.made + 1; said = u.said ++ word_of b.found; right = right_after contents f b u }

-- at these contents the effect says no
abbrev pub no_by : (ℕ → List ℕ) → Ticket → Range → Bool
no_by contents k r = has_compare (op k) && not (all_equal contents k r)

-- a ticket after a Block of its open unit
abbrev pub blocked_flight : (ℕ → List ℕ) → CheckedTicket → BlockLine → CheckedUnit → CheckedTicket
blocked_flight contents f b u =
    let r = u.line.range in
    record f {
      unit = if ends_by f b u then None else Some (unit_after contents f b u);
      differs = is_differs b.found || f.differs;
      placed = f.placed + (if b.effect then 1 else 0);
      no = (b.effect && no_by contents f.ticket r) || f.no;
      found = f.found ++ (if b.effect then read_at contents f.ticket r else []);
    }

-- these contents are the same in the blocks of a range
abbrev pub SameIn : (ℕ → List ℕ) → (ℕ → List ℕ) → Range → Type 0
SameIn f g r = (l : ℕ) → r.slba ≤ l → l < r.slba + r.blocks → f l ≡ g l

-- what each block is
abbrev pub value_after : (ℕ → List ℕ) → BlockLine → Ticket → Range → ℕ → List ℕ
value_after contents b k r l = if b.effect && has_block r l && writes contents k r then write_data k l else contents l

-- the tables after a Block, where its ticket has this open unit
abbrev pub blocked : Tables → BlockLine → Option CheckedUnit → Tables
blocked s b None = s
blocked s b (Some u) =
    let f = s.flight b.ticket in
    record s {
      value = value_after s.value b f.ticket u.line.range;
      flight = with_flight s.flight b.ticket (blocked_flight s.value f b u);
      opens = if ends_by f b u then filter (λ g. not (g.ticket == b.ticket)) s.opens else s.opens;
    }

-- ---- a Post

-- a ticket after a Post
abbrev pub posted_flight : CheckedTicket → CheckedTicket
posted_flight f = record f { posts = f.posts + 1 }

-- the ticket flies on after one more
abbrev pub flies_on : CheckedTicket → Bool
flies_on f = nat_lt (f.posts + 1) (length f.ticket.commands)

-- ---- an entry

-- the tables after an entry
abbrev pub tables_after : ConfigNumbers → Tables → Entry → Tables
tables_after c s (Entry.Publish p) = record s { waiting = λ q. s.waiting q ++ (if p.queue == q then p.batch else []) }
tables_after c s (Entry.Fetch f) =
    record s {
      tickets = s.tickets + 1;
      flying = s.flying ++ f.ticket ∷ [];
      flight = with_flight s.flight f.ticket (just_fetched (fetched_by s f));
      waiting = λ q. drop (if f.queue == q then Verdict.taken_entries f.verdict else 0) (s.waiting q);
      fetched = λ q. s.fetched q + (if f.queue == q then Verdict.taken_entries f.verdict else 0);
    }
tables_after c s (Entry.Grant g) =
    record s {
      flight = with_flight s.flight g.ticket (opened_flight (s.flight g.ticket) g);
      opens = g ∷ s.opens;
    }
tables_after c s (Entry.Block b) = blocked s b (s.flight b.ticket).unit
tables_after c s (Entry.Post p) =
    let f = s.flight p.ticket in
    record s {
      flying = if flies_on f then s.flying else filter (λ t. not (t == p.ticket)) s.flying;
      flight = with_flight s.flight p.ticket (posted_flight f);
      posts = λ q. s.posts q + (if completion_queue c f.ticket.queue == q then 1 else 0);
      unreaped = λ q. s.unreaped q ++ (if completion_queue c f.ticket.queue == q then p ∷ [] else []);
    }
tables_after c s (Entry.Reap r) = record s { unreaped = λ q. drop (if r.queue == q then 1 else 0) (s.unreaped q) }
