-- What is found before a step: of the queue or the ticket that it names, and of what waits there.
use Rattle.std.specs.List.{find}
use Rattle.std.specs.Prelude.{List, None, Option, Some, [], false, length, slice_get, true, ℕ, ◌==◌, ◌∷◌, ◌≡◌, ◌≤◌}
use Rattle.nvme_model.specs.Completions.{completion, posted_completions, reaped_count}
use Rattle.nvme_model.specs.Config.{completion_queue}
use Rattle.nvme_model.specs.EntryBytes.{slba}
use Rattle.nvme_model.specs.History.{Past}
use Rattle.nvme_model.specs.Legal.{IsLegal}
use Rattle.nvme_model.specs.Operations.{op_by}
use Rattle.nvme_model.specs.Owed.{owed}
use Rattle.nvme_model.specs.Queues.{fetched_count, published_entries}
use Rattle.nvme_model.specs.Refusals.{no_completion_queue, no_queue, refusal}
use Rattle.nvme_model.specs.Steps.{is_ready, next_entry}
use Rattle.nvme_model.specs.Tickets.{cids, fetched_ticket, first_fields, in_flight, next_verdict, posts_of, ticket}
use Rattle.nvme_model.specs.declared.config.ConfigNumbers.{ConfigNumbers}
use Rattle.nvme_model.specs.declared.entry.Entry.{Entry}
use Rattle.nvme_model.specs.declared.status.Status.{Status}
use Rattle.nvme_model.specs.declared.step.Step.{Step}
use Rattle.nvme_model.specs.declared.submission.Submission.{Submission}
use Rattle.rings.specs.Completions.{CompletionRing}
use Rattle.rings.specs.Queues.{completion_ring, submission_ring}
use Rattle.rings.specs.Submissions.{SubmissionRing}
use Rattle.fused_match.specs.Judged.{NamesBlocks, operation_in, verdict_by}
use Rattle.job_table.specs.Stages.{first_ticket_stage, unit_in}
use Rattle.job_table.specs.Keeping.{Keeping}
use Rattle.job_table.specs.Tickets.{compare_by, job_at}
use Rattle.step_core.specs.declared.controller.fetch.Front.{Front}
use Rattle.step_core.specs.declared.controller.next.ReadyStep.{ReadyStep}
use Rattle.step_core.specs.declared.controller.post.Due.{Due}

-- a submission queue and its ring
pub record IsSqRing (c : ConfigNumbers) (past : Past) (q : ℕ) (r : SubmissionRing) : Type 0 where
  pub there : no_queue c q ≡ false
  pub is : r ≡ submission_ring c past q
  pub within : fetched_count past q ≤ length (published_entries past q)

-- a completion queue and its ring
pub record IsCqRing (c : ConfigNumbers) (past : Past) (q : ℕ) (r : CompletionRing) : Type 0 where
  pub there : no_completion_queue c q ≡ false
  pub is : r ≡ completion_ring c past q
  pub within : reaped_count past q ≤ length (posted_completions c past q)

-- a ticket in flight of a legal history, and what is kept of it
pub record IsJob (c : ConfigNumbers) (past : Past) (t : ℕ) (j : Keeping) : Type 0 where
  pub legal : IsLegal c past
  pub flies : in_flight past t ≡ true
  pub is : j ≡ job_at c past t

-- the completion that a Post of its ticket gives, and the queue that it goes to
pub record IsDue (c : ConfigNumbers) (past : Past) (d : Due) : Type 0 where
  pub status : Status
  pub owed : slice_get (owed c past d.ticket) (posts_of past d.ticket) ≡ Some status
  pub from : d.from ≡ (ticket past d.ticket).queue
  pub queue : d.queue ≡ completion_queue c (ticket past d.ticket).queue
  pub cid : slice_get (job_at c past d.ticket).progress.cids 0 ≡ Some d.cid
  pub cqe : d.cqe ≡ completion c past d.ticket status
  pub bytes : d.bytes ≡ length (job_at c past d.ticket).read
  pub last : d.last ≡ (length (job_at c past d.ticket).progress.cids == 1)

-- what a Fetch of queue q finds: what becomes of the entries at its front, the CIDs of those that it takes, and the
-- first block that the first of them names
pub record IsFront (c : ConfigNumbers) (past : Past) (q : ℕ) (f : Front) : Type 0 where
  pub verdict : verdict_by f.judged ≡ next_verdict c past q
  pub operation :
      operation_in f.judged ≡ op_by (verdict_by f.judged) (first_fields (fetched_ticket past q (verdict_by f.judged)))
  pub range : NamesBlocks f.judged (first_fields (fetched_ticket past q (verdict_by f.judged)))
  pub cids : f.cids ≡ cids (fetched_ticket past q (verdict_by f.judged))
  pub slba : f.slba ≡ slba (first_fields (fetched_ticket past q (verdict_by f.judged)))

-- what is kept of a ticket that begins, with these blocks to write and this room for what it reads
abbrev pub first_job : ℕ → Front → Submission → List (List ℕ) → List ℕ → Keeping
first_job q f first write read =
    record {
      queue = q;
      progress = record { stage = first_ticket_stage f.judged; cids = f.cids };
      slba = f.slba;
      compare = compare_by (operation_in f.judged) first;
      write = write;
      read = read;
    }

-- the step of a ticket, beside its Fetch, that nothing refuses
abbrev pub next_step : ConfigNumbers → Past → ℕ → Option Step
next_step c past t = find (is_ready c past) (Step.Grant t ∷ Step.Block t ∷ Step.Post t ∷ [])

-- the step that was found
abbrev pub ready_step_of : ReadyStep → Step
ready_step_of (ReadyStep.Grant g) = Step.Grant g.ticket
ready_step_of (ReadyStep.Block t u) = Step.Block t
ready_step_of (ReadyStep.Post d) = Step.Post d.ticket

-- nothing refuses it, and it adds this line, is of this unit, or gives this completion
abbrev pub IsNextStep : ConfigNumbers → Past → ReadyStep → Type 0
IsNextStep c past (ReadyStep.Grant g) =
    (refusal c past (Step.Grant g.ticket) ≡ None) × (Entry.Grant g ≡ next_entry c past (Step.Grant g.ticket))
IsNextStep c past (ReadyStep.Block t u) = (refusal c past (Step.Block t) ≡ None)
    × (u ≡ unit_in (job_at c past t).progress.stage)
IsNextStep c past (ReadyStep.Post d) = (refusal c past (Step.Post d.ticket) ≡ None) × IsDue c past d
