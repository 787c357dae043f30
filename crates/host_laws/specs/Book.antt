-- What a driver keeps of its entries: which one it waits for, by submission queue and CID.
use Rattle.std.specs.Prelude.{None, Option, Some, if◌then◌else◌, length, suc, ℕ, ◌&&◌, ◌==◌, ◌≡◌, ◌↔◌, ◌++◌}
use Rattle.nvme_model.specs.Config.{completion_queue}
use Rattle.nvme_model.specs.EntryBytes.{sqe_fields}
use Rattle.nvme_model.specs.History.{Past}
use Rattle.nvme_model.specs.Queues.{published_entries}
use Rattle.nvme_model.specs.declared.config.ConfigNumbers.{ConfigNumbers}
use Rattle.nvme_model.specs.declared.submission.Submission.{Submission}
use Rattle.host_laws.specs.Calls.{IsEntryWaiting}

-- the number of the entry of a submission queue that has a CID, if one is waited for
abbrev pub Book : Type 0
Book = ℕ → ℕ → Option ℕ

-- no entry is waited for
abbrev pub empty_book : Book
empty_book q cid = None

-- entry j of submission queue q, with this CID, is waited for from now on
abbrev pub with_entry : Book → ℕ → ℕ → ℕ → Book
with_entry book q cid j r i = if (r == q) && (i == cid) then Some j else book r i

-- the CID of an entry
abbrev pub cid_of : Submission → ℕ
cid_of s = (sqe_fields s.entry).cid

-- the next entry of submission queue q, or the next two, are waited for from now on
abbrev pub with_one : Book → Past → ℕ → Submission → Book
with_one book past q s = with_entry book q (cid_of s) (length (published_entries past q))

-- the book with the next two entries of a queue, each under its CID
abbrev pub with_pair : Book → Past → ℕ → Submission → Submission → Book
with_pair book past q s t = with_entry (with_one book past q s) q (cid_of t) (suc (length (published_entries past q)))

-- the entry with this CID is no longer waited for
abbrev pub without_entry : Book → ℕ → ℕ → Book
without_entry book q cid r i = if (r == q) && (i == cid) then None else book r i

-- For the submission queues of completion queue n the book has exactly the entries whose completions aren't reaped,
-- each under its CID.
abbrev pub IsBook : ConfigNumbers → Past → ℕ → Book → Type 0
IsBook c past n book = (q cid j : ℕ) → completion_queue c q ≡ n → (book q cid ≡ Some j) ↔ IsEntryWaiting c past q cid j

-- no two entries of submission queue q that wait for their completions have one CID
abbrev pub HasDistinctCids : ConfigNumbers → Past → ℕ → Type 0
HasDistinctCids c past q = (cid i j : ℕ) → IsEntryWaiting c past q cid i → IsEntryWaiting c past q cid j → i ≡ j

-- nor had any at an earlier place
abbrev pub IsAlwaysApart : ConfigNumbers → Past → ℕ → Type 0
IsAlwaysApart c past q = (later before : Past) → later ++ before ≡ past → HasDistinctCids c before q
