-- Two hosts that claim one slot in turn: how often each claimed it, and which entry each completion is for.
use Rattle.std.proofs.Common.{List, [], arith, map, refl, suc, zero, ℕ, ◌∷◌, ◌≡◌}
use Rattle.nvme_model.specs.Array.{zeros}
use Rattle.nvme_model.specs.Examples.{submit}
use Rattle.nvme_model.specs.History.{Past}
use Rattle.nvme_model.specs.Slots.{EntryCompletion, Name, entry_completions, slot_block}
use Rattle.nvme_model.specs.Steps.{run, settle}
use Rattle.nvme_model.specs.declared.array.Range.{Range}
use Rattle.nvme_model.specs.declared.config.ConfigNumbers.{ConfigNumbers}
use Rattle.nvme_model.specs.declared.step.Step.{Step}
use Rattle.nvme_model.specs.declared.submission.Submission.{Submission}
use Rattle.slot_log_laws.specs.Counts.{claims_on}
use Rattle.many_host_laws.specs.Closing.{HasRounds}

-- submission queues 1 and 3 use completion queue 1, the others completion queue 2
abbrev four : ConfigNumbers
four = record {
  blocks = 8;
  atomic = record { awun = 1; acwu = 1; nabsn = 0; nabo = 0 };
  pairs = 4;
  sq_size = 4;
  cq_size = 8;
  jobs = 8;
  cqs = 2;
}

abbrev area : Range
area = record { slba = 0; blocks = 1 }

abbrev name : ℕ → ℕ → Name
name h s = record { host = h; serial = s }

abbrev swap : List ℕ → List ℕ → List Submission
swap old new = submit 5 1 0 0 0 old ∷ submit 1 2 1 0 0 new ∷ []

-- a batch on a submission queue, served and reaped from completion queue n
abbrev served : ℕ → ℕ → List Submission → Past → Past
served q n batch past = run four (settle 20 four (run four past (Step.Publish q batch ∷ Step.Fetch q ∷ [])))
    (Step.Reap n ∷ Step.Reap n ∷ [])

-- host 1 claims on queue 1 and releases on queue 3, and host 2 claims on queue 4
abbrev in_turn : Past
in_turn = served 4 2 (swap zeros (slot_block (name 2 1)))
    (served 3 1 (swap (slot_block (name 1 1)) zeros) (served 1 1 (swap zeros (slot_block (name 1 1))) []))

-- host 1 claims in vain
abbrev in_vain : Past
in_vain = served 1 1 (swap zeros (slot_block (name 1 2))) in_turn

-- ---- rounds

-- each host claimed once
pub one_each : HasRounds four area 1 in_turn
one_each zero low high = absurd (omega (arith, low))
one_each (suc zero) low high = refl
one_each (suc (suc zero)) low high = refl
one_each (suc (suc (suc h))) low high = absurd (omega (arith, high))

-- a release is no round, and a claim that was lost is one
pub two_of_one : claims_on four in_vain 1 0 ≡ 2
two_of_one = refl

pub none_of_another_slot : claims_on four in_vain 1 1 ≡ 0
none_of_another_slot = refl

-- ---- completions

-- which entry of which submission queue each completion of completion queue 1 is for, numbered on that queue
abbrev entries_of : List EntryCompletion → List (ℕ × ℕ)
entries_of of = map (λ e. (e.queue, e.number)) of

pub numbered_by_queue : entries_of (entry_completions four in_vain 1) ≡
    (1, 0) ∷ (1, 1) ∷ (3, 0) ∷ (3, 1) ∷ (1, 2) ∷ (1, 3) ∷ []
numbered_by_queue = refl

pub of_its_queues_alone : entries_of (entry_completions four in_vain 2) ≡ (4, 0) ∷ (4, 1) ∷ []
of_its_queues_alone = refl
