-- Write Zeroes: four written blocks of which two become zeros, data that is too much, and none in a pair.
use Rattle.std.specs.Prelude.{◌≡◌, refl, true, [], ◌∷◌, replicate, false}
use Rattle.nvme_model.specs.History.{Past}
use Rattle.nvme_model.specs.Value.{value}
use Rattle.nvme_model.specs.Medium.{medium}
use Rattle.nvme_model.specs.Legal.{legal}
use Rattle.nvme_model.specs.Steps.{run, settle}
use Rattle.nvme_model.specs.Examples.{default, submit, one, block, grant}
use Rattle.nvme_model.specs.declared.array.Mode.{Mode}
use Rattle.nvme_model.specs.declared.operation.Found.{Found}
use Rattle.nvme_model.specs.declared.step.Step.{Step}
use Rattle.nvme_model.proofs.ExampleScripts.{posted_ends, served, cqe_end}

-- the blocks 0 to 3 written
abbrev four_written : Past
four_written = run default (served default 1 (submit 1 0 1 0 3 (replicate 2048 0xa1) ∷ [])) (Step.Reap 1 ∷ [])

-- and then the blocks 1 and 2 set to zeros, up to the last Block
abbrev zeroed_early : Past
zeroed_early = run default four_written (Step.Publish 1 (submit 8 0 2 1 1 [] ∷ []) ∷ Step.Fetch 1 ∷ [])

abbrev zeroed : Past
zeroed = run default (settle 40 default zeroed_early) (Step.Reap 1 ∷ [])

pub zeroed_steps : run default zeroed_early (Step.Grant 2 ∷ Step.Block 2 ∷ Step.Block 2 ∷ [])
    ≡ block 2 0 2 Found.Written false ∷ block 2 0 1 Found.Written true ∷ grant 2 0 1 2 Mode.Exclusive ∷ zeroed_early
zeroed_steps = refl

pub zeroed_posted : posted_ends default zeroed 1 ≡ cqe_end 1 1 1 0 ∷ cqe_end 2 2 1 0 ∷ []
zeroed_posted = refl

pub zeroed_block_0 : medium zeroed 0 ≡ one 0xa1
zeroed_block_0 = refl

pub zeroed_block_1 : medium zeroed 1 ≡ one 0
zeroed_block_1 = refl

pub zeroed_block_2 : medium zeroed 2 ≡ one 0
zeroed_block_2 = refl

pub zeroed_block_3 : medium zeroed 3 ≡ one 0xa1
zeroed_block_3 = refl

pub zeroed_value_1 : value zeroed 1 ≡ one 0
zeroed_value_1 = refl

pub zeroed_legal : legal default zeroed ≡ true
zeroed_legal = refl

pub with_data_posted : posted_ends default (served default 1 (submit 8 0 2 1 0 (one 0xa1) ∷ [])) 1 ≡ cqe_end 1 2 9 0
    ∷ []
with_data_posted = refl

pub in_pair_posted : posted_ends default (served default 1 (submit 5 1 7 3 0 (one 0) ∷ submit 8 2 8 3 0 [] ∷ [])) 1
    ≡ cqe_end 2 7 5 0 ∷ cqe_end 2 8 5 0 ∷ []
in_pair_posted = refl
