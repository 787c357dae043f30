-- What a checker keeps, and of which history.
use Rattle.std.specs.Prelude.{Bool, List, None, length, map, suc, true, ℕ, ◌*◌, ◌<◌, ◌≡◌}
use Rattle.history_check.specs.Contents.{contents_in}
use Rattle.history_check.specs.Judged.{in_use}
use Rattle.history_check.specs.Tables.{Tables, tables}
use Rattle.rings.specs.Used.{AreInUse, UsedCids}
use Rattle.nvme_model.specs.Config.{config_fault}
use Rattle.nvme_model.specs.History.{Past}
use Rattle.nvme_model.specs.Legal.{IsLegal, legal}
use Rattle.nvme_model.specs.Operations.{units}
use Rattle.nvme_model.specs.declared.config.ConfigNumbers.{ConfigNumbers}
use Rattle.range_reserve.specs.Reserved.{by_ticket, held_of}
use Rattle.range_reserve.specs.declared.held.HeldRange.{HeldRange}
use Rattle.rings.specs.Completions.{CompletionRing}
use Rattle.rings.specs.Submissions.{SubmissionRing}
use Rattle.history_check.specs.Rings.{checked_completion_ring, checked_submission_ring}
use Rattle.rings.specs.Tables.{IsTable}
use Rattle.history_check.specs.declared.fields.Fields.{Fields}
use Rattle.history_check.specs.declared.fields.CheckedInFlight.{CheckedInFlight}

-- what each block is, the rings of the queues, the CIDs in use, the tickets in flight, the ranges of open units,
-- and how many tickets there are
pub record CheckerState : Type 0 where
  pub volume : List (List ℕ)
  pub submission : List SubmissionRing
  pub in_use : List UsedCids
  pub completion : List CompletionRing
  pub flights : List CheckedInFlight
  pub held : List HeldRange
  pub tickets : ℕ

-- in these fields
abbrev pub checker_state_in : Fields → CheckerState
checker_state_in f =
    record {
      volume = f.volume;
      submission = f.submission.items;
      in_use = f.in_use.items;
      completion = f.completion.items;
      flights = f.flights.items;
      held = f.ranges.held;
      tickets = f.tickets;
    }

-- what is kept of ticket t
abbrev pub flight_in : ConfigNumbers → Tables → ℕ → CheckedInFlight
flight_in c s t = record { ticket = t; flight = s.flight t; units = units c (s.flight t).ticket }

-- it shows these tables, with room for two CIDs of each ticket that may be in flight
pub record ShowsTables (c : ConfigNumbers) (s : Tables) (k : CheckerState) : Type 0 where
  pub blocks : length k.volume ≡ c.blocks
  pub values : (l : ℕ) → l < c.blocks → contents_in k.volume l ≡ s.value l
  pub sq_rings : IsTable (λ q. checked_submission_ring c s (suc q)) c.pairs k.submission
  pub in_use : AreInUse c.pairs (2 * c.jobs) (in_use s) k.in_use
  pub cq_rings : IsTable (λ q. checked_completion_ring c s (suc q)) c.cqs k.completion
  pub in_flight : k.flights ≡ map (flight_in c s) s.flying
  pub ranges : k.held ≡ by_ticket (map held_of s.opens)
  pub count : k.tickets ≡ s.tickets

-- it is what is kept of this legal history
pub record IsCheckerState (c : ConfigNumbers) (past : Past) (k : CheckerState) : Type 0 where
  pub accepted : config_fault c ≡ None
  pub legal_so_far : IsLegal c past
  pub shows : ShowsTables c (tables c past) k

-- a checker: its configuration, whether all that it took is legal, and what it keeps
pub record CheckerRun : Type 0 where
  pub config : ConfigNumbers
  pub is_legal : Bool
  pub kept : CheckerState

-- it stands for this history
pub record Stands (c : ConfigNumbers) (past : Past) (x : CheckerRun) : Type 0 where
  pub same : x.config ≡ c
  pub answer : x.is_legal ≡ legal c past
  pub keeps : x.is_legal ≡ true → IsCheckerState c past x.kept
