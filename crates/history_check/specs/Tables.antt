-- What a checker keeps of a history: a table for each thing that a later entry is judged by, and no entry.
use Rattle.std.specs.List.{find}
use Rattle.std.specs.Prelude.{Bool, List, None, Option, [], drop, false, length, option_map, ℕ, ◌==◌}
use Rattle.nvme_model.specs.Array.{zeros}
use Rattle.nvme_model.specs.Completions.{posted_completions, reaped_count}
use Rattle.nvme_model.specs.History.{Past}
use Rattle.nvme_model.specs.Open.{blocks_made, differed, grants_of, open_units}
use Rattle.nvme_model.specs.Placed.{effect}
use Rattle.nvme_model.specs.Queues.{fetched_count, waiting}
use Rattle.nvme_model.specs.Tickets
use Rattle.nvme_model.specs.Tickets.{Ticket, posts_of, tickets}
use Rattle.nvme_model.specs.Value
use Rattle.nvme_model.specs.declared.config.ConfigNumbers.{ConfigNumbers}
use Rattle.nvme_model.specs.declared.entry.GrantLine.{GrantLine}
use Rattle.nvme_model.specs.declared.entry.PostLine.{PostLine}
use Rattle.nvme_model.specs.declared.status.Verdict.{Verdict}
use Rattle.nvme_model.specs.declared.submission.Submission.{Submission}
use Rattle.ticket_laws.specs.Standing.{flying}
use Rattle.history_check.specs.Effects
use Rattle.history_check.specs.Effects.{answers_at, said, effect_said_no}

-- the open unit of a ticket
pub record CheckedUnit : Type 0 where
  pub line : GrantLine
  -- how many Block entries it has, and what those that compare have answered, the first first
  pub made : ℕ
  pub said : List Bool
  -- once it has its effect, the answers that are right
  pub right : Option (List Bool)

-- the open unit of this Grant
abbrev pub checked_unit_of : Past → GrantLine → CheckedUnit
checked_unit_of past g =
    record {
      line = g;
      made = length (blocks_made past g.ticket g.unit);
      said = said (blocks_made past g.ticket g.unit);
      right = option_map (λ before. answers_at (Value.value before) (Tickets.ticket past g.ticket) g.range)
          (effect past g.ticket g.unit);
    }

-- the open unit of ticket t, if it has one
abbrev pub checked_unit : Past → ℕ → Option CheckedUnit
checked_unit past t = option_map (checked_unit_of past) (find (λ g. g.ticket == t) (open_units past))

-- a ticket
pub record CheckedTicket : Type 0 where
  pub ticket : Ticket
  -- how many of its units were opened, and the one that is open
  pub opened : ℕ
  pub unit : Option CheckedUnit
  -- a `differs` ended it
  pub differs : Bool
  -- how many of its completions were posted
  pub posts : ℕ
  -- how many of its units have their effect, whether one said no, and what they found
  pub placed : ℕ
  pub no : Bool
  pub found : List ℕ

-- ticket t, as a checker keeps it
abbrev pub flight : Past → ℕ → CheckedTicket
flight past t =
    record {
      ticket = Tickets.ticket past t;
      opened = grants_of past t;
      unit = checked_unit past t;
      differs = differed past t;
      posts = posts_of past t;
      placed = Effects.placed past t;
      no = effect_said_no past t;
      found = Effects.found past t;
    }

-- one that was just fetched
abbrev pub just_fetched : Ticket → CheckedTicket
just_fetched k = record {
  ticket = k;
  opened = 0;
  unit = None;
  differs = false;
  posts = 0;
  placed = 0;
  no = false;
  found = [];
}

-- the completions of completion queue q that weren't reaped
abbrev pub unreaped : ConfigNumbers → Past → ℕ → List PostLine
unreaped c past q = drop (reaped_count past q) (posted_completions c past q)

-- all that is kept
pub record Tables : Type 0 where
  -- what each block is
  pub value : ℕ → List ℕ
  -- how many tickets there are, those in flight, and each
  pub tickets : ℕ
  pub flying : List ℕ
  pub flight : ℕ → CheckedTicket
  -- the open units
  pub opens : List GrantLine
  -- by submission queue: what waits, and how many were fetched
  pub waiting : ℕ → List Submission
  pub fetched : ℕ → ℕ
  -- by completion queue: how many were posted, and what wasn't reaped
  pub posts : ℕ → ℕ
  pub unreaped : ℕ → List PostLine

-- of a history
abbrev pub tables : ConfigNumbers → Past → Tables
tables c past =
    record {
      value = Value.value past;
      tickets = Tickets.tickets past;
      flying = flying past;
      flight = flight past;
      opens = open_units past;
      waiting = waiting past;
      fetched = fetched_count past;
      posts = λ q. length (posted_completions c past q);
      unreaped = unreaped c past;
    }

-- of none
abbrev pub no_tables : Tables
no_tables =
    record {
      value = λ l. zeros;
      tickets = 0;
      flying = [];
      flight = λ t. just_fetched (record { queue = 0; commands = []; verdict = Verdict.Single });
      opens = [];
      waiting = λ q. [];
      fetched = λ q. 0;
      posts = λ q. 0;
      unreaped = λ q. [];
    }
