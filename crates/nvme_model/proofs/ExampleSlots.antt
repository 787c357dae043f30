-- Two hosts and one slot.
use Rattle.std.specs.Prelude.{◌≡◌, refl, ℕ, true, false, Some, None, List, [], ◌∷◌, ◌++◌, replicate}
use Rattle.nvme_model.specs.History.{Past}
use Rattle.nvme_model.specs.Legal.{legal}
use Rattle.nvme_model.specs.Steps.{run, settle}
use Rattle.nvme_model.specs.Array.{zeros}
use Rattle.nvme_model.specs.Slots.{Name, slot_block, holder, believed, disciplined}
use Rattle.nvme_model.specs.Examples.{default, submit, publish}
use Rattle.nvme_model.specs.declared.array.Range.{Range}
use Rattle.nvme_model.specs.declared.submission.Submission.{Submission}
use Rattle.nvme_model.specs.declared.step.Step.{Step}

abbrev name : ℕ → ℕ → Name
name h s = record { host = h; serial = s }

abbrev swap : List ℕ → List ℕ → List Submission
swap old new = submit 5 1 0 0 0 old ∷ submit 1 2 1 0 0 new ∷ []

abbrev served : ℕ → List Submission → Past → Past
served q batch past = run default (settle 20 default (run default past (Step.Publish q batch ∷ Step.Fetch q ∷ [])))
    (Step.Reap q ∷ Step.Reap q ∷ [])

abbrev area : Range
area = record { slba = 0; blocks = 1 }

-- host 1 claims, host 2 loses, host 1 releases, host 2 claims
abbrev held_1 : Past
held_1 = served 1 (swap zeros (slot_block (name 1 1))) []

abbrev lost_2 : Past
lost_2 = served 2 (swap zeros (slot_block (name 2 1))) held_1

abbrev free_1 : Past
free_1 = served 1 (swap (slot_block (name 1 1)) zeros) lost_2

abbrev held_2 : Past
held_2 = served 2 (swap zeros (slot_block (name 2 2))) free_1

pub held_1_by : holder held_1 0 ≡ Some (name 1 1)
held_1_by = refl

pub lost_2_by : holder lost_2 0 ≡ Some (name 1 1)
lost_2_by = refl

pub believed_1 : believed default lost_2 0 (name 1 1) ≡ true
believed_1 = refl

pub not_believed_2 : believed default lost_2 0 (name 2 1) ≡ false
not_believed_2 = refl

pub free_1_by : holder free_1 0 ≡ None
free_1_by = refl

pub not_believed_1 : believed default free_1 0 (name 1 1) ≡ false
not_believed_1 = refl

pub held_2_by : holder held_2 0 ≡ Some (name 2 2)
held_2_by = refl

pub kept : disciplined default area held_2 ≡ true
kept = refl

pub all_legal : legal default held_2 ≡ true
all_legal = refl

-- a batch that releases one name twice: the second release is of a name that isn't believed any more
abbrev released_twice : Past
released_twice = publish 1 (swap (slot_block (name 1 1)) zeros ++ swap (slot_block (name 1 1)) zeros) ∷ held_1

pub released_twice_breaks : disciplined default area released_twice ≡ false
released_twice_breaks = refl

pub released_once_keeps : disciplined default area (publish 1 (swap (slot_block (name 1 1)) zeros) ∷ held_1) ≡ true
released_once_keeps = refl

-- on the other host's queue
pub released_elsewhere_breaks : disciplined default area (publish 2 (swap (slot_block (name 1 1)) zeros) ∷ held_1)
    ≡ false
released_elsewhere_breaks = refl

-- a name that was claimed before
pub claimed_again_breaks : disciplined default area (publish 2 (swap zeros (slot_block (name 1 1))) ∷ held_1) ≡ false
claimed_again_breaks = refl

-- a Write and a Write Zeroes in the area, and a Write beside it
pub plain_write_breaks : disciplined default area (publish 2 (submit 1 0 1 0 0 zeros ∷ []) ∷ held_1) ≡ false
plain_write_breaks = refl

pub write_zeroes_breaks : disciplined default area (publish 2 (submit 8 0 1 0 0 [] ∷ []) ∷ held_1) ≡ false
write_zeroes_breaks = refl

pub write_beside_keeps : disciplined default area (publish 2 (submit 1 0 1 1 0 zeros ∷ []) ∷ held_1) ≡ true
write_beside_keeps = refl

-- outside the area a pair may use any name
pub swap_beside_keeps : disciplined default (record { slba = 1; blocks = 1 })
    (publish 2 (swap zeros (slot_block (name 1 1))) ∷ held_1) ≡ true
swap_beside_keeps = refl

-- the block of a slot: host 2, serial 2
pub slot_bytes : slot_block (name 2 2) ≡ 2 ∷ 0 ∷ 0 ∷ 0 ∷ 0 ∷ 0 ∷ 0 ∷ 0 ∷ 2 ∷ (replicate 503 0)
slot_bytes = refl
