-- The refinement: each field of a core is what its history says.
use Rattle.std.specs.Prelude.{List, None, map, suc, ℕ, ◌*◌, ◌≡◌}
use Rattle.nvme_model.specs.Config.{config_fault}
use Rattle.nvme_model.specs.History.{Past}
use Rattle.nvme_model.specs.Kept.{ControllerInvariant}
use Rattle.nvme_model.specs.Medium.{medium}
use Rattle.nvme_model.specs.Open.{open_units}
use Rattle.nvme_model.specs.Tickets.{cids_in_use, tickets}
use Rattle.nvme_model.specs.declared.config.ConfigNumbers.{ConfigNumbers}
use Rattle.rings.specs.Used as used
use Rattle.rings.specs.Used.{UsedCids}
use Rattle.range_reserve.specs.Reserved.{by_ticket, held_of}
use Rattle.range_reserve.specs.declared.held.HeldRange.{HeldRange}
use Rattle.rings.specs.Completions.{CompletionRing}
use Rattle.rings.specs.Queues.{completion_ring, submission_ring}
use Rattle.rings.specs.Submissions.{SubmissionRing}
use Rattle.rings.specs.Tables.{IsTable}
use Rattle.job_table.specs.Jobs.{JobTable}
use Rattle.job_table.specs.Tickets.{job_table}

-- the CIDs kept for submission queue q are those in use on it, and there is room for two of each ticket that may be in
-- flight
abbrev pub AreQueueCids : ConfigNumbers → Past → ℕ → UsedCids → Type 0
AreQueueCids c past q u = used.AreUsed (2 * c.jobs) (cids_in_use past q) u

-- so it is of each submission queue
abbrev pub AreAllQueueCids : ConfigNumbers → Past → List UsedCids → Type 0
AreAllQueueCids c past us = used.AreInUse c.pairs (2 * c.jobs) (cids_in_use past) us

-- what a core has beside its configuration, its history and its room
pub record CoreFields : Type 0 where
  pub volume : List (List ℕ)
  pub submission : List SubmissionRing
  pub in_use : List UsedCids
  pub completion : List CompletionRing
  pub jobs : JobTable
  pub held : List HeldRange
  pub tickets : ℕ

-- each field is what the history says
pub record IsCoreOf (c : ConfigNumbers) (past : Past) (f : CoreFields) : Type 0 where
  pub accepted : config_fault c ≡ None
  pub volume : IsTable (medium past) c.blocks f.volume
  pub submission : IsTable (λ k. submission_ring c past (suc k)) c.pairs f.submission
  pub in_use : AreAllQueueCids c past f.in_use
  pub completion : IsTable (λ k. completion_ring c past (suc k)) c.cqs f.completion
  pub jobs : f.jobs ≡ job_table c past
  pub held : f.held ≡ by_ticket (map held_of (open_units past))
  pub count : f.tickets ≡ tickets past
  pub run : ControllerInvariant c past
