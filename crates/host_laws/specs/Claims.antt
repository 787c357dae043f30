-- Claims and releases of slots, which claims were won, and the serials that a host has drawn.
use Rattle.std.specs.Prelude.{Bool, false, length, Some, nat_le, not, suc, true, ℕ, ◌&&◌, ◌==◌, ◌||◌, ◌≡◌}
use Rattle.std.specs.List.{Contains, list_all, list_any}
use Rattle.nvme_model.specs.Array.{has_block, zeros}
use Rattle.nvme_model.specs.Config.{completion_queue}
use Rattle.nvme_model.specs.EntryBytes.{slba, sqe_fields}
use Rattle.nvme_model.specs.Queues.{published_entries}
use Rattle.nvme_model.specs.declared.submission.Submission.{Submission}
use Rattle.nvme_model.specs.History.{Past}
use Rattle.nvme_model.specs.Slots.{Name, Swap, in_area, is_pair_on_one, name_of, reaped_success, releases, same_name}
use Rattle.nvme_model.specs.Slots.{swaps}
use Rattle.nvme_model.specs.declared.array.Range.{Range}
use Rattle.nvme_model.specs.declared.config.ConfigNumbers.{ConfigNumbers}

-- A claim of a slot of the area that was published.
pub record IsPublishedClaim (slots : Range) (past : Past) (k : Swap) : Type 0 where
  pub published : Contains (swaps past) k
  pub claims : k.claims ≡ true
  pub inside : has_block slots k.lba ≡ true

-- A release that was published.
pub record IsPublishedRelease (slots : Range) (past : Past) (r : Swap) : Type 0 where
  pub published : Contains (swaps past) r
  pub releases : r.claims ≡ false
  pub inside : has_block slots r.lba ≡ true

-- A claim whose success was reaped.
pub record IsWon (c : ConfigNumbers) (past : Past) (k : Swap) : Type 0 where
  pub claims : k.claims ≡ true
  pub published : Contains (swaps past) k
  pub reaped : reaped_success c past k.queue (suc k.number) ≡ true

-- a claim of the name stands in the slot area
abbrev pub is_claimed : Range → Past → Name → Bool
is_claimed slots past n = list_any (λ w. w.claims && same_name w.name n) (in_area slots (swaps past))

-- a release of the name from the slot at block l stands on a submission queue of completion queue q
abbrev pub is_released_on : ConfigNumbers → Past → ℕ → ℕ → Name → Bool
is_released_on c past q l n = list_any (λ r. releases r l n && (completion_queue c r.queue == q)) (swaps past)

-- the claim isn't of this host, or its serial isn't above the last
abbrev pub is_drawn : ℕ → ℕ → Swap → Bool
is_drawn host last w = not w.claims || not (w.name.host == host) || nat_le w.name.serial last

-- no claim of this host in the slot area has a serial above the last
abbrev pub all_drawn : Range → Past → ℕ → ℕ → Bool
all_drawn slots past host last = list_all (is_drawn host last) (in_area slots (swaps past))

-- this host claims, in the slot area, on submission queues of completion queue q alone
abbrev pub claims_only_on : ConfigNumbers → Range → Past → ℕ → ℕ → Bool
claims_only_on c slots past host q =
    list_all (λ w. not w.claims || not (w.name.host == host) || (completion_queue c w.queue == q))
    (in_area slots (swaps past))

-- the block that an entry begins at
abbrev pub lba_of : Submission → ℕ
lba_of s = slba (sqe_fields s.entry)

-- The pair claims the slot at its block for this name.
pub record IsClaim (a b : Submission) (n : Name) : Type 0 where
  pub pair : is_pair_on_one a b ≡ true
  pub old : a.payload ≡ zeros
  pub new : name_of b.payload ≡ Some n

-- The pair releases this name from the slot at its block.
pub record IsRelease (a b : Submission) (n : Name) : Type 0 where
  pub pair : is_pair_on_one a b ≡ true
  pub old : name_of a.payload ≡ Some n
  pub new : b.payload ≡ zeros

-- the claim, or the release, of this name that a pair makes whose first entry is a, the next of submission queue q
abbrev pub claim_of : Past → ℕ → Submission → Name → Swap
claim_of past q a n =
    record { claims = true; queue = q; number = length (published_entries past q); lba = lba_of a; name = n }

-- the release that a pair is, as the next two entries of a queue
abbrev pub release_of : Past → ℕ → Submission → Name → Swap
release_of past q a n =
    record { claims = false; queue = q; number = length (published_entries past q); lba = lba_of a; name = n }
