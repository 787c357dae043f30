-- Single commands and small batches: the statuses that they are answered with, and steps that are refused.
use Rattle.std.specs.Prelude.{◌≡◌, refl, ℕ, true, Some, [], ◌∷◌, ◌++◌, replicate, map, take}
use Rattle.nvme_model.specs.History.{Past}
use Rattle.nvme_model.specs.Open.{granted}
use Rattle.nvme_model.specs.Refusals.{refusal}
use Rattle.nvme_model.specs.Legal.{legal}
use Rattle.nvme_model.specs.Steps.{run, settle}
use Rattle.nvme_model.specs.Statuses.{out_of_range}
use Rattle.nvme_model.specs.Examples.{default, submit, one, pair_on_3, block, fetch}
use Rattle.nvme_model.specs.declared.config.ConfigNumbers.{ConfigNumbers}
use Rattle.nvme_model.specs.declared.operation.Found.{Found}
use Rattle.nvme_model.specs.declared.refusal.Why.{Why}
use Rattle.nvme_model.specs.declared.status.Verdict.{Verdict}
use Rattle.nvme_model.specs.declared.step.Step.{Step}
use Rattle.nvme_model.specs.declared.submission.Submission.{Submission}
use Rattle.nvme_model.proofs.ExampleScripts.{posted_ends, served, cqe_end}

-- ---- one command

-- a Write of the block after the last
abbrev past_the_end : Past
past_the_end = run default [] (Step.Publish 1 (submit 1 0 1 8 0 (one 0xa1) ∷ []) ∷ Step.Fetch 1 ∷ [])

pub past_the_end_fetched : take 1 past_the_end ≡ fetch 1 1 (Verdict.SingleFailed out_of_range) ∷ []
past_the_end_fetched = refl

-- a Compare of zeros with A1
abbrev unequal : Past
unequal = run default []
    (Step.Publish 1 (submit 5 0 1 0 0 (one 0xa1) ∷ []) ∷ Step.Fetch 1 ∷ Step.Grant 1 ∷ Step.Block 1 ∷ [])

pub unequal_differs : take 1 unequal ≡ block 1 0 0 Found.Differs true ∷ []
unequal_differs = refl

pub unequal_posted : posted_ends default (settle 10 default unequal) 1 ≡ cqe_end 1 1 0x0b 5 ∷ []
unequal_posted = refl

pub flush_posted : posted_ends default (served default 1 (submit 0 0 2 0 0 [] ∷ [])) 1 ≡ cqe_end 1 2 1 0 ∷ []
flush_posted = refl

-- FUSE 11b
pub reserved_fuse_posted : posted_ends default (served default 1 (submit 1 3 1 0 0 (one 0xa1) ∷ [])) 1 ≡ cqe_end 1 1 5 0
    ∷ []
reserved_fuse_posted = refl

-- 65,536 blocks
abbrev longest_write : Submission
longest_write = record {
  entry = 1 ∷ 0 ∷ 1 ∷ 0 ∷ 1 ∷ 0 ∷ 0 ∷ 0 ∷ (replicate 40 0 ++ (255 ∷ 255 ∷ replicate 14 0));
  payload = [];
}

pub longest_write_posted : posted_ends default (served default 1 (longest_write ∷ [])) 1 ≡ cqe_end 1 1 5 0 ∷ []
longest_write_posted = refl

-- the largest volume, one submission queue of two slots, one ticket
abbrev largest : ConfigNumbers
largest = record {
  blocks = 65536;
  atomic = record { awun = 255; acwu = 255; nabsn = 0; nabo = 0 };
  pairs = 1;
  sq_size = 2;
  cq_size = 2;
  jobs = 1;
  cqs = 1;
}

-- 256 blocks from block 65,281
abbrev one_block_over : Submission
one_block_over = record {
  entry =
      1 ∷ 0 ∷ 1 ∷ 0 ∷ 1 ∷ 0 ∷ 0 ∷ 0 ∷ (replicate 32 0 ++ (1 ∷ 255 ∷ replicate 6 0 ++ (255 ∷ replicate 15 0)));
  payload = [];
}

pub one_block_over_posted : posted_ends largest (served largest 1 (one_block_over ∷ [])) 1 ≡ cqe_end 1 1 1 1 ∷ []
one_block_over_posted = refl

-- ---- pairs

-- two Writes
pub write_first_posted : posted_ends default
    (served default 1 (submit 1 1 1 0 0 (one 0xa1) ∷ submit 1 2 2 0 0 (one 0xb2) ∷ [])) 1 ≡ cqe_end 2 1 5 0
    ∷ cqe_end 2 2 5 0 ∷ []
write_first_posted = refl

-- one CID twice
pub same_cid_posted : posted_ends default
    (served default 1 (submit 5 1 7 3 0 (one 0) ∷ submit 1 2 7 3 0 (one 0xa1) ∷ [])) 1 ≡ cqe_end 2 7 7 0
    ∷ cqe_end 2 7 7 0 ∷ []
same_cid_posted = refl

-- a first without a second, and then a pair
pub two_firsts_posted : posted_ends default
    (served default 2 (submit 5 1 1 3 0 (one 0) ∷ submit 5 1 2 3 0 (one 0) ∷ submit 1 2 3 3 0 (one 0xa1) ∷ [])) 1
    ≡ cqe_end 3 1 0x15 0 ∷ cqe_end 3 2 1 0 ∷ cqe_end 3 3 1 0 ∷ []
two_firsts_posted = refl

-- a completion queue that holds one completion
abbrev two_slots : ConfigNumbers
two_slots = record {
  blocks = 8;
  atomic = record { awun = 1; acwu = 1; nabsn = 0; nabo = 0 };
  pairs = 2;
  sq_size = 4;
  cq_size = 2;
  jobs = 8;
  cqs = 2;
}

abbrev half_posted : Past
half_posted = settle 40 two_slots (run two_slots [] (Step.Publish 1 (pair_on_3 7 8 0 0xa1) ∷ Step.Fetch 1 ∷ []))

pub second_waits : refusal two_slots half_posted (Step.Post 1) ≡ Some Why.CqFull
second_waits = refl

abbrev both_posted : Past
both_posted = run two_slots half_posted (Step.Reap 1 ∷ Step.Post 1 ∷ Step.Reap 1 ∷ [])

pub second_posted : posted_ends two_slots both_posted 1 ≡ cqe_end 2 7 1 0 ∷ cqe_end 2 8 1 0 ∷ []
second_posted = refl

pub both_legal : legal two_slots both_posted ≡ true
both_legal = refl

-- ---- units

-- a boundary after every three blocks
abbrev by_three : ConfigNumbers
by_three = record {
  blocks = 8;
  atomic = record { awun = 1; acwu = 1; nabsn = 2; nabo = 0 };
  pairs = 2;
  sq_size = 4;
  cq_size = 4;
  jobs = 8;
  cqs = 2;
}

pub six_blocks_granted : map {B = ℕ × ℕ} (λ g. (g.range.slba, g.range.blocks))
    (granted (served by_three 1 (submit 2 0 1 0 5 [] ∷ []))) ≡ (5, 1) ∷ (3, 2) ∷ (2, 1) ∷ (0, 2) ∷ []
six_blocks_granted = refl

-- ---- refusals

pub nothing_to_reap : refusal default [] (Step.Reap 1) ≡ Some Why.NoCompletion
nothing_to_reap = refl

pub no_queue_first : refusal default [] (Step.Publish 0 []) ≡ Some Why.NoQueue
no_queue_first = refl

pub empty_batch : refusal default [] (Step.Publish 1 []) ≡ Some Why.BadBatch
empty_batch = refl

pub pair_too_long : refusal largest [] (Step.Publish 1 (pair_on_3 7 8 0 0xa1)) ≡ Some Why.NoRoom
pair_too_long = refl

pub nothing_to_fetch : refusal default [] (Step.Fetch 2) ≡ Some Why.NoEntry
nothing_to_fetch = refl

pub no_ticket : refusal default [] (Step.Grant 1) ≡ Some Why.NoTicket
no_ticket = refl

-- a Write fetched and not granted
abbrev not_granted : Past
not_granted = run largest []
    (Step.Publish 1 (submit 1 0 1 3 0 (one 0xa1) ∷ []) ∷ Step.Fetch 1
    ∷ Step.Publish 1 (submit 1 0 2 3 0 (one 0xb2) ∷ []) ∷ [])

pub jobs_are_full : refusal largest not_granted (Step.Fetch 1) ≡ Some Why.JobsFull
jobs_are_full = refl

pub no_open_unit : refusal largest not_granted (Step.Block 1) ≡ Some Why.WrongState
no_open_unit = refl

pub nothing_owed : refusal largest not_granted (Step.Post 1) ≡ Some Why.WrongState
nothing_owed = refl
