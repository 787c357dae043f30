-- What a port did for its driver, the newest event first, and what that says of each CID and each entry.
use Rattle.std.specs.Prelude.{Bool, List, None, Option, Some, [], false, if◌then◌else◌, length, nat_lt, not, suc, true}
use Rattle.std.specs.Prelude.{ℕ, ◌&&◌, ◌++◌, ◌==◌, ◌∷◌}
use Rattle.std.specs.List.{list_any}
use Rattle.nvme_model.specs.EntryBytes.{cqe_fields}
use Rattle.nvme_model.specs.declared.submission.Submission.{Submission}
use Rattle.host_laws.specs.Book.{cid_of}
use Rattle.host_laws.specs.Calls.{is_clean}
use Rattle.driver_calls.specs.declared.event.CidState.{CidState}
use Rattle.driver_calls.specs.declared.event.PortEvent.{PortEvent}

-- the entries that were published to submission queue q, in order
abbrev pub sent : List PortEvent → ℕ → List Submission
sent [] q = []
sent (PortEvent.Sent p batch ∷ log) q = sent log q ++ (if p == q then batch else [])
sent (PortEvent.Got cqe payload ∷ log) q = sent log q

-- the completion sets no reserved field, and names this submission queue and CID
abbrev pub names_cid : List ℕ → ℕ → ℕ → Bool
names_cid cqe q cid = is_clean cqe && ((cqe_fields cqe).sqid == q) && ((cqe_fields cqe).cid == cid)

-- what a CID has come to with a completion that names it or doesn't
abbrev pub after_got : Bool → List ℕ → List ℕ → CidState → CidState
after_got true cqe payload CidState.Waiting = CidState.Answered cqe payload
after_got _ cqe payload s = s

-- one of these entries has this CID
abbrev pub has_cid : ℕ → List Submission → Bool
has_cid cid batch = list_any (λ s. cid_of s == cid) batch

-- what the newest entry of submission queue q with this CID has come to
abbrev pub state_of : List PortEvent → ℕ → ℕ → CidState
state_of [] q cid = CidState.Idle
state_of (PortEvent.Sent p batch ∷ log) q cid =
    if (p == q) && has_cid cid batch then CidState.Waiting else state_of log q cid
state_of (PortEvent.Got cqe payload ∷ log) q cid = after_got (names_cid cqe q cid) cqe payload (state_of log q cid)

-- the number of the last of these entries with this CID, where the first has number k; else the one that was
abbrev pub newest_number : ℕ → List Submission → ℕ → Option ℕ → Option ℕ
newest_number k [] cid old = old
newest_number k (s ∷ batch) cid old = newest_number (suc k) batch cid (if cid_of s == cid then Some k else old)

-- the number of that newest entry on its submission queue, from 0
abbrev pub newest : List PortEvent → ℕ → ℕ → Option ℕ
newest [] q cid = None
newest (PortEvent.Sent p batch ∷ log) q cid =
    if p == q then newest_number (length (sent log q)) batch cid (newest log q cid) else newest log q cid
newest (PortEvent.Got cqe payload ∷ log) q cid = newest log q cid

-- no entry with this CID waits for its completion
abbrev pub is_idle : CidState → Bool
is_idle CidState.Waiting = false
is_idle _ = true

-- the entry has a CID of 16 bits that none waits for
abbrev pub has_free_cid : List PortEvent → ℕ → Submission → Bool
has_free_cid log q s = nat_lt (cid_of s) 65536 && is_idle (state_of log q (cid_of s))

-- one entry, or two with unlike CIDs, all of which are free
abbrev pub is_tidy_batch : List PortEvent → ℕ → List Submission → Bool
is_tidy_batch log q [] = false
is_tidy_batch log q (s ∷ []) = has_free_cid log q s
is_tidy_batch log q (s ∷ t ∷ []) = has_free_cid log q s && has_free_cid log q t && not (cid_of t == cid_of s)
is_tidy_batch log q (s ∷ t ∷ u ∷ batch) = false

-- so is each batch of these, to a submission queue with a number of 16 bits
abbrev pub is_tidy : List PortEvent → Bool
is_tidy [] = true
is_tidy (PortEvent.Sent q batch ∷ log) = is_tidy log && nat_lt q 65536 && is_tidy_batch log q batch
is_tidy (PortEvent.Got cqe payload ∷ log) = is_tidy log
