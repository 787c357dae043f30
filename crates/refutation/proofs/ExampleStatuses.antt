-- Statuses that the rule refutes, and their neighbours that it doesn't.
use Rattle.std.specs.Prelude.{List, [], false, refl, replicate, true, ℕ, ◌∷◌, ◌≡◌}
use Rattle.nvme_model.specs.Examples.{cqe, default, one, pair_on_3, submit}
use Rattle.nvme_model.specs.declared.submission.Submission.{Submission}
use Rattle.trace.specs.declared.seen.ReapedLine.{ReapedLine}
use Rattle.trace.specs.declared.seen.Seen.{Seen}
use Rattle.refutation.specs.LineRules.{has_early_second, has_wrong_data, has_wrong_second, has_wrong_status}

-- a Publish of these entries to queue 1
abbrev published : List Submission → Seen
published batch = Seen.Published (record { queue = 1; batch = batch })

-- the first completion of queue 1 for this CID, by the two bytes of its status, with data or without
abbrev answer : ℕ → ℕ → ℕ → List ℕ → ReapedLine
answer cid low high bytes = record { queue = 1; cqe = cqe 1 0 1 0 cid 0 low high; payload = bytes }

-- ---- commands by themselves

-- a Write of the last of eight blocks, and of the block after it
abbrev last_block : List Seen
last_block = published (submit 1 0 5 7 0 (one 0xa1) ∷ []) ∷ []

abbrev past_the_end : List Seen
past_the_end = published (submit 1 0 5 8 0 (one 0xa1) ∷ []) ∷ []

pub written : has_wrong_status default last_block (answer 5 1 0 []) ≡ false
written = refl

pub last_block_refused : has_wrong_status default last_block (answer 5 1 1 []) ≡ true
last_block_refused = refl

pub end_written : has_wrong_status default past_the_end (answer 5 1 0 []) ≡ true
end_written = refl

pub end_refused : has_wrong_status default past_the_end (answer 5 1 1 []) ≡ false
end_refused = refl

-- Compare Failure is of a Compare, not of a Write
pub compare_fails : has_wrong_status default (published (submit 5 0 5 7 0 (one 0xa1) ∷ []) ∷ []) (answer 5 0x0b 5 [])
    ≡ false
compare_fails = refl

pub write_compares : has_wrong_status default last_block (answer 5 0x0b 5 []) ≡ true
write_compares = refl

-- ---- pairs

-- one line publishes a pair, or two do
abbrev pair : List Seen
pair = published (pair_on_3 7 8 0 0xa1) ∷ []

abbrev two_lines : List Seen
two_lines = published (submit 1 2 8 3 0 (one 0xa1) ∷ []) ∷ published (submit 5 1 7 3 0 (one 0) ∷ []) ∷ []

-- a first without its second
pub missing_second : has_wrong_status default two_lines (answer 7 0x15 0 []) ≡ false
missing_second = refl

pub no_missing_second : has_wrong_status default pair (answer 7 0x15 0 []) ≡ true
no_missing_second = refl

pub first_fails : has_wrong_status default pair (answer 7 0x0b 5 []) ≡ false
first_fails = refl

-- nor is a second alone, where one line publishes both
pub missing_first : has_wrong_status default two_lines (answer 8 0x15 0 []) ≡ false
missing_first = refl

pub no_missing_first : has_wrong_status default pair (answer 8 0x15 0 []) ≡ true
no_missing_first = refl

-- a second that fails with its first, and one that compares
pub second_aborted : has_wrong_status default pair (answer 8 0x13 0 []) ≡ false
second_aborted = refl

pub second_compares : has_wrong_status default pair (answer 8 0x0b 5 []) ≡ true
second_compares = refl

-- a lone first can't succeed
pub lone_first : has_wrong_status default (published (submit 5 1 7 3 0 (one 0) ∷ []) ∷ []) (answer 7 1 0 []) ≡ true
lone_first = refl

pub matched_first : has_wrong_status default pair (answer 7 1 0 []) ≡ false
matched_first = refl

-- the first succeeded, or failed
pub second_succeeds : has_wrong_second (Seen.Reaped (answer 7 1 0 []) ∷ pair) (answer 8 1 0 []) ≡ false
second_succeeds = refl

pub second_alone_aborted : has_wrong_second (Seen.Reaped (answer 7 1 0 []) ∷ pair) (answer 8 0x13 0 []) ≡ true
second_alone_aborted = refl

pub both_fail : has_wrong_second (Seen.Reaped (answer 7 0x0b 5 []) ∷ pair) (answer 8 0x13 0 []) ≡ false
both_fail = refl

pub second_alone_succeeds : has_wrong_second (Seen.Reaped (answer 7 0x0b 5 []) ∷ pair) (answer 8 1 0 []) ≡ true
second_alone_succeeds = refl

-- the first isn't answered
pub early : has_early_second pair (answer 8 1 0 []) ≡ true
early = refl

pub in_turn : has_early_second (Seen.Reaped (answer 7 1 0 []) ∷ pair) (answer 8 1 0 []) ≡ false
in_turn = refl

-- a second alone may come first
pub early_alone : has_early_second two_lines (answer 8 0x15 0 []) ≡ false
early_alone = refl

-- ---- data

abbrev a_read : List Seen
a_read = published (submit 2 0 5 6 1 [] ∷ []) ∷ []

-- two blocks, or one
pub both_blocks : has_wrong_data a_read (answer 5 1 0 (replicate 1024 0)) ≡ false
both_blocks = refl

pub one_block : has_wrong_data a_read (answer 5 1 0 (replicate 512 0)) ≡ true
one_block = refl

-- a Read that failed has none, nor has a Write
pub no_blocks : has_wrong_data a_read (answer 5 1 1 []) ≡ false
no_blocks = refl

pub failed_blocks : has_wrong_data a_read (answer 5 1 1 (replicate 1024 0)) ≡ true
failed_blocks = refl

pub written_data : has_wrong_data last_block (answer 5 1 0 (replicate 512 0)) ≡ true
written_data = refl

pub written_none : has_wrong_data last_block (answer 5 1 0 []) ≡ false
written_none = refl
