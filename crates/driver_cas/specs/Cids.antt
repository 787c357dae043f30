-- What the CIDs of submission queues are used for.
use Rattle.std.specs.List.{position}
use Rattle.std.specs.List.Sorted.{IsStrictlyIncreasing}
use Rattle.std.specs.Option.{option_map}
use Rattle.std.specs.Prelude.{Bool, List, None, Option, Some, false, if◌then◌else◌, length, nat_lt, slice_index_or}
use Rattle.std.specs.Prelude.{true, ℕ, ◌&&◌, ◌*◌, ◌+◌, ◌<◌, ◌==◌, ◌≡◌, ◌≢◌, ◌≤◌}
use Rattle.nvme_model.specs.declared.status.Status.{Status}
use Rattle.nvme_model.specs.declared.submission.Payload.{Payload}
use Rattle.driver_cas.specs.declared.held.CidUse.{CidUse}
use Rattle.driver_cas.specs.declared.held.CidUse.TheVariants.{Answered, Free, Waiting}

-- the submission queues in order, and the 64 CIDs of each, the first queue's first
pub record QueueCids : Type 0 where
  pub queues : List ℕ
  pub cids : List CidUse

-- how they are kept
pub record IsCidTable (queues : List ℕ) (cids : List CidUse) : Type 0 where
  pub rising : IsStrictlyIncreasing queues
  pub few : length queues ≤ 65536
  pub whole : length cids ≡ 64 * length queues

-- the submission queues, rising
abbrev pub queues_of : QueueCids → List ℕ
queues_of t = t.queues

-- where a CID of a queue is, among 64 of each
abbrev pub place_of : List ℕ → ℕ → ℕ → Option ℕ
place_of queues queue cid =
    if nat_lt cid 64 then option_map (λ k. 64 * k + cid) (position (λ q. q == queue) queues) else None

-- what is at that place
abbrev pub held_at : List CidUse → Option ℕ → CidUse
held_at cids None = Free
held_at cids (Some place) = slice_index_or cids place Free

-- what a CID of a queue is used for; Free where the table has no such queue or CID
unfoldable pub held : QueueCids → ℕ → ℕ → CidUse
held t queue cid = held_at t.cids (place_of t.queues queue cid)

-- this CID of this queue is used so from now on, and all others as before
abbrev pub ChangesOnly : QueueCids → QueueCids → ℕ → ℕ → CidUse → Type 0
ChangesOnly old new queue cid h =
    (q i : ℕ) → held new q i ≡ (if (q == queue) && (i == cid) then h else held old q i)

-- what a CID is used for after a completion for it: only a command that waits takes it
abbrev pub answered : CidUse → Status → Payload → CidUse
answered Free status payload = Free
answered Waiting status payload = Answered status payload
answered (Answered s p) status payload = Answered s p

-- a command waits for its completion
abbrev pub is_waiting : CidUse → Bool
is_waiting Waiting = true
is_waiting _ = false

-- the status that was answered
abbrev pub answered_status : CidUse → Option Status
answered_status Free = None
answered_status Waiting = None
answered_status (Answered status payload) = Some status

-- the payload that was answered
abbrev pub answered_payload : CidUse → Option Payload
answered_payload Free = None
answered_payload Waiting = None
answered_payload (Answered status payload) = Some payload

-- no CID of the queue from `from` on and below `end` is free
abbrev pub NoneFreeBetween : QueueCids → ℕ → ℕ → ℕ → Type 0
NoneFreeBetween t queue from end = (i : ℕ) → from ≤ i → i < end → held t queue i ≢ Free

-- no CID of the queue below `end` is free
abbrev pub NoneFreeBelow : QueueCids → ℕ → ℕ → Type 0
NoneFreeBelow t queue end = (i : ℕ) → i < end → held t queue i ≢ Free

-- any two free CIDs of the queue are one
abbrev pub AtMostOneFree : QueueCids → ℕ → Type 0
AtMostOneFree t queue =
    (i j : ℕ) → i < 64 → j < 64 → held t queue i ≡ Free → held t queue j ≡ Free → i ≡ j
