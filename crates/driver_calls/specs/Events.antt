-- The events of a port in a shared history: the Publishes to the submission queues of one completion queue, and the
-- Reaps of it, by one pass.
use Rattle.std.specs.Prelude.{List, [], if◌then◌else◌, slice_get, ℕ, ◌++◌, ◌==◌, ◌≡◌, ◌∷◌}
use Rattle.nvme_model.specs.Completions.{posted_completions, reaped_count, reaped_payload}
use Rattle.nvme_model.specs.Config.{completion_queue}
use Rattle.nvme_model.specs.History.{Past}
use Rattle.nvme_model.specs.Passes.{SharedPast, entries}
use Rattle.nvme_model.specs.Queues.{published_entries}
use Rattle.nvme_model.specs.declared.config.ConfigNumbers.{ConfigNumbers}
use Rattle.nvme_model.specs.declared.entry.Entry.{Entry}
use Rattle.nvme_model.specs.declared.entry.PostLine.{PostLine}
use Rattle.host_laws.specs.Book.{IsBook}
use Rattle.host_laws.specs.Calls.{reaped_post}
use Rattle.driver_calls.specs.Log.{newest, sent, state_of}
use Rattle.driver_calls.specs.declared.event.CidState.{CidState}
use Rattle.driver_calls.specs.declared.event.PortEvent.{PortEvent}
use Rattle.std.specs.Prelude.{None, Option, Some}

-- the event that an entry is for completion queue n, if it is one
abbrev pub event_at : ConfigNumbers → ℕ → Past → Entry → List PortEvent
event_at c n past (Entry.Publish p) =
    if completion_queue c p.queue == n then PortEvent.Sent p.queue p.batch ∷ [] else []
event_at c n past (Entry.Reap r) =
    if r.queue == n
    then PortEvent.Got r.cqe
    (reaped_payload (slice_get (posted_completions c past r.queue) (reaped_count past r.queue))) ∷ []
    else []
event_at c n past _ = []

-- those of pass p, the newest first
abbrev pub events : ConfigNumbers → ℕ → ℕ → SharedPast → List PortEvent
events c n p [] = []
events c n p (m ∷ shared) = (if m.0 == p then event_at c n (entries shared) m.1 else []) ++ events c n p shared

-- the number of the entry of a CID that waits for its completion
abbrev pub waiting_number : CidState → Option ℕ → Option ℕ
waiting_number CidState.Waiting j = j
waiting_number _ j = None

-- What a log tells of completion queue n and its submission queues: which entries are published, which are not reaped,
-- and by which Post each was answered.
pub record IsToldByLog (c : ConfigNumbers) (past : Past) (n : ℕ) (log : List PortEvent) : Type 0 where
  pub entries_are : (q : ℕ) → completion_queue c q ≡ n → published_entries past q ≡ sent log q
  pub book : IsBook c past n (λ q cid. waiting_number (state_of log q cid) (newest log q cid))
  pub got : (q cid j : ℕ) (cqe payload : List ℕ) →
      completion_queue c q ≡ n → state_of log q cid ≡ CidState.Answered cqe payload →
      newest log q cid ≡ Some j →
      (p : PostLine) × (reaped_post c past q j ≡ Some p) × (p.cqe ≡ cqe) × (p.payload ≡ payload)
