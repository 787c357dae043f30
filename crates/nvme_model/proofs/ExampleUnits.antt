-- Units, boundaries and half-written ranges.
use Rattle.std.specs.Prelude.{◌≡◌, refl, ℕ, true, Some, [], ◌∷◌, ◌++◌, replicate, map}
use Rattle.nvme_model.specs.declared.config.ConfigNumbers.{ConfigNumbers}
use Rattle.nvme_model.specs.History.{Past}
use Rattle.nvme_model.specs.Completions.{posted_completions}
use Rattle.nvme_model.specs.Open.{granted}
use Rattle.nvme_model.specs.Value.{value}
use Rattle.nvme_model.specs.Medium.{medium}
use Rattle.nvme_model.specs.Refusals.{refusal}
use Rattle.nvme_model.specs.Legal.{legal}
use Rattle.nvme_model.specs.Steps.{run, settle}
use Rattle.nvme_model.specs.Examples.{default, submit, one}
use Rattle.nvme_model.specs.declared.step.Step.{Step}
use Rattle.nvme_model.specs.declared.refusal.Why.{Why}
use Rattle.nvme_model.proofs.ExampleScripts.{posted_ends, served, cqe_end}

-- a Write and a Read whose units alternate
abbrev between_units_end : Past
between_units_end =
    run default [] (Step.Publish 1 (submit 1 0 1 0 3 (replicate 2048 0xa1) ∷ [])
    ∷ Step.Publish 2 (submit 2 0 2 0 3 [] ∷ []) ∷ Step.Fetch 1 ∷ Step.Fetch 2
    ∷ Step.Grant 1 ∷ Step.Block 1 ∷ Step.Block 1 ∷ Step.Grant 2 ∷ Step.Block 2 ∷ Step.Block 2 ∷ Step.Grant 2
    ∷ Step.Block 2 ∷ Step.Block 2 ∷ Step.Post 2 ∷ [])

pub between_units_read : map (λ p. p.payload) (posted_completions default between_units_end 2)
    ≡ (replicate 1024 0xa1 ++ replicate 1024 0) ∷ []
between_units_read = refl

pub between_units_legal : legal default between_units_end ≡ true
between_units_legal = refl

-- a boundary after every four blocks, the first at block 2
abbrev bounded : ConfigNumbers
bounded = record {
  blocks = 12;
  atomic = record { awun = 3; acwu = 3; nabsn = 3; nabo = 2 };
  pairs = 2;
  sq_size = 4;
  cq_size = 4;
  jobs = 8;
  cqs = 2;
}

pub bounded_grants : map {B = ℕ × ℕ} (λ g. (g.range.slba, g.range.blocks))
    (granted (served bounded 1 (submit 1 0 1 4 3 (replicate 2048 0xa1) ∷ []))) ≡ (6, 2) ∷ (4, 2) ∷ []
bounded_grants = refl

pub bounded_pair_refused : posted_ends bounded
    (served bounded 1 (submit 5 1 7 5 1 (replicate 1024 0) ∷ submit 1 2 8 5 1 (replicate 1024 0xa1) ∷ [])) 1
    ≡ cqe_end 2 7 0x29 0 ∷ cqe_end 2 8 0x29 0 ∷ []
bounded_pair_refused = refl

pub bounded_pair_served : posted_ends bounded
    (served bounded 1 (submit 5 1 7 2 3 (replicate 2048 0) ∷ submit 1 2 8 2 3 (replicate 2048 0xa1) ∷ [])) 1
    ≡ cqe_end 2 7 1 0 ∷ cqe_end 2 8 1 0 ∷ []
bounded_pair_served = refl

-- half a Write
abbrev half_written : Past
half_written =
    run default [] (Step.Publish 1 (submit 1 0 1 0 1 (replicate 1024 0xa1) ∷ [])
    ∷ Step.Publish 2 (submit 2 0 2 0 1 [] ∷ []) ∷ Step.Fetch 1 ∷ Step.Fetch 2 ∷ Step.Grant 1 ∷ Step.Block 1 ∷ [])

pub half_written_first : medium half_written 0 ≡ one 0xa1
half_written_first = refl

pub half_written_second : medium half_written 1 ≡ one 0
half_written_second = refl

pub half_written_value : value half_written 1 ≡ one 0xa1
half_written_value = refl

pub half_written_refuses : refusal default half_written (Step.Grant 2) ≡ Some Why.Conflict
half_written_refuses = refl

-- the range ends past the last number of 64 bits
pub far_block_posted : posted_ends default
    (served default 1 (record {
      entry = 1 ∷ 0 ∷ 1 ∷ 0 ∷ 1 ∷ 0 ∷ 0 ∷ 0 ∷ (replicate 32 0 ++ (replicate 8 255 ++ replicate 16 0));
      payload = one 0xa1;
    } ∷ [])) 1 ≡ cqe_end 1 1 1 1 ∷ []
far_block_posted = refl

-- units of one block, and pairs of four
abbrev one_block_units : ConfigNumbers
one_block_units = record {
  blocks = 8;
  atomic = record { awun = 0; acwu = 3; nabsn = 0; nabo = 0 };
  pairs = 1;
  sq_size = 8;
  cq_size = 8;
  jobs = 8;
  cqs = 1;
}

-- a Compare of three units that differs in its second; the third is never granted
abbrev differs_in_second : Past
differs_in_second = served one_block_units 2 (submit 1 0 1 1 0 (one 0xa1) ∷ submit 5 0 2 0 2 (replicate 1536 0) ∷ [])

pub differs_in_second_posted : posted_ends one_block_units differs_in_second 1 ≡ cqe_end 2 1 1 0 ∷ cqe_end 2 2 0x0b 5
    ∷ []
differs_in_second_posted = refl

pub differs_in_second_grants : map {B = ℕ × ℕ} (λ g. (g.ticket, g.unit)) (granted differs_in_second) ≡ (2, 1) ∷ (2, 0)
    ∷ (1, 0) ∷ []
differs_in_second_grants = refl

pub differs_in_second_legal : legal one_block_units differs_in_second ≡ true
differs_in_second_legal = refl

-- a pair that differs in its second block, a Flush, a failed pair and a Read of three blocks
abbrev mixed : Past
mixed =
    settle 60 one_block_units (run one_block_units (served one_block_units 1 (submit 1 0 1 1 0 (one 0xa1) ∷ []))
    (Step.Publish 1 (submit 5 1 2 0 2 (replicate 1536 0) ∷ submit 1 2 3 0 2 (replicate 1536 0xb2) ∷ submit 0 0 4 0 0 []
    ∷ submit 5 1 5 3 0 (one 0) ∷ submit 1 2 5 3 0 (one 0xc3) ∷ submit 2 0 6 0 2 [] ∷ [])
    ∷ Step.Fetch 1 ∷ Step.Fetch 1 ∷ Step.Fetch 1 ∷ Step.Fetch 1 ∷ []))

pub mixed_posted : posted_ends one_block_units mixed 1 ≡ cqe_end 1 1 1 0 ∷ cqe_end 7 2 0x0b 5 ∷ cqe_end 7 3 0x13 0
    ∷ cqe_end 7 4 1 0 ∷ cqe_end 7 5 7 0 ∷ cqe_end 7 5 7 0 ∷ cqe_end 7 6 1 0 ∷ []
mixed_posted = refl

pub mixed_legal : legal one_block_units mixed ≡ true
mixed_legal = refl
