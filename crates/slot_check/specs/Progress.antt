-- What a check of the slots keeps of queues and tickets.
use Rattle.std.specs.Prelude.{None, Option, Some, if◌then◌else◌, length, nat_le, true, ℕ, ◌&&◌, ◌+◌, ◌-◌, ◌==◌, ◌≡◌}
use Rattle.std.specs.Prelude.{◌≤◌, nat_eq, slice_get, unwrap_or}
use Rattle.std.specs.Option.{option_map}
use Rattle.std.specs.HashMap.{get, get_by}
use Rattle.nvme_model.specs.Completions.{reaped_count}
use Rattle.nvme_model.specs.History.{Past}
use Rattle.nvme_model.specs.Queues.{fetched_count, published_entries}
use Rattle.nvme_model.specs.Slots.{EntryCompletion, entry_completions, next_number, says_success}
use Rattle.nvme_model.specs.Tickets.{in_flight, posts_of, ticket}
use Rattle.nvme_model.specs.Verdict.{taken_entries}
use Rattle.nvme_model.specs.declared.config.ConfigNumbers.{ConfigNumbers}
use Rattle.slot_check.specs.declared.progress.Completed.{Completed}
use Rattle.slot_check.specs.declared.progress.Flying.{Flying}
use Rattle.slot_check.specs.declared.progress.CompletionPlace.{CompletionPlace}
use Rattle.slot_check.specs.declared.progress.QueueProgress.{QueueProgress}

-- how many entries were published and fetched, by submission queue, and how many completions were posted and reaped,
-- by
-- completion queue; the tickets in flight, and the completions that wait, by queue and place
pub record KeptProgress : Type 0 where
  pub published : ℕ → ℕ
  pub fetched : ℕ → ℕ
  pub posted : ℕ → ℕ
  pub reaped : ℕ → ℕ
  pub flying : ℕ → Option Flying
  pub waiting : ℕ → ℕ → Option Completed

-- in these tables
abbrev pub progress_in : QueueProgress → KeptProgress
progress_in x =
    record {
      published = λ q. unwrap_or (get nat_eq x.published q) 0;
      fetched = λ q. unwrap_or (get nat_eq x.fetched q) 0;
      posted = λ q. unwrap_or (get nat_eq x.posted q) 0;
      reaped = λ q. unwrap_or (get nat_eq x.reaped q) 0;
      flying = λ t. get nat_eq x.flying t;
      waiting = λ q i. get_by (λ (p : CompletionPlace). (q == p.queue) && (i == p.index)) x.waiting;
    }

-- what is kept of ticket t: its queue, the number of the entry that its next completion is for, and how many of its
-- completions aren't posted yet
abbrev pub flying_of : Past → ℕ → Flying
flying_of past t =
    record {
      queue = (ticket past t).queue;
      next = next_number past t;
      left = taken_entries (ticket past t).verdict - posts_of past t;
    }

-- a ticket in flight behind one more completion, if it is in flight still
abbrev pub after_completion : Flying → Option Flying
after_completion f =
    if nat_le f.left 1 then None else Some (record { queue = f.queue; next = f.next + 1; left = f.left - 1 })

-- what is kept of a completion: for which entry it is, and whether it says success
abbrev pub completed_of : EntryCompletion → Completed
completed_of r = record { queue = r.queue; number = r.number; success = says_success r.cqe }

-- It is what is kept of this history.
pub record KnowsProgress (c : ConfigNumbers) (past : Past) (k : KeptProgress) : Type 0 where
  pub published : (q : ℕ) → k.published q ≡ length (published_entries past q)
  pub fetched : (q : ℕ) → k.fetched q ≡ fetched_count past q
  pub posted : (q : ℕ) → k.posted q ≡ length (entry_completions c past q)
  pub reaped : (q : ℕ) → k.reaped q ≡ reaped_count past q
  pub flying : (t : ℕ) → in_flight past t ≡ true → k.flying t ≡ Some (flying_of past t)
  pub waiting : (q i : ℕ) → reaped_count past q ≤ i
      → k.waiting q i ≡ option_map completed_of (slice_get (entry_completions c past q) i)
