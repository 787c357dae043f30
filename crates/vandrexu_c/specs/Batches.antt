-- The entries of a Publish as they lie in C: their data stand one behind the other in one list.
use Rattle.std.specs.Prelude.{List, None, Option, Some, [], cond, drop, length, nat_le, option_map, take, ℕ, ◌∷◌, ◌≡◌}
use Rattle.std.specs.Prelude.{◌⊎◌}
use Rattle.nvme_model.specs.declared.step.Step.{Step}
use Rattle.nvme_model.specs.declared.submission.Submission.{Submission}
use Rattle.vandrexu_c.specs.OwnedStates.{OwnedState}
use Rattle.vandrexu_c.specs.Steps.{TellsStep}
use Rattle.vandrexu_c.specs.declared.batch.EntryBytes.{EntryBytes}

-- the entries with their data; none where there are fewer data, or more
unfoldable pub submissions_of : List EntryBytes → List ℕ → Option (List Submission)
submissions_of [] [] = Some []
submissions_of [] (b ∷ bs) = None
submissions_of (e ∷ es) bytes =
    cond (nat_le e.count (length bytes))
    (option_map (λ xs. record { entry = e.bytes; payload = take e.count bytes } ∷ xs)
    (submissions_of es (drop e.count bytes))) None

-- These entries are published: refused by 106 where the data aren't theirs, or by 11 where memory for their copies is
-- refused, and then nothing has changed; or the controller serves the Publish of just them.
abbrev pub TellsPublish : OwnedState → ℕ → List EntryBytes → List ℕ → ℕ → OwnedState → Type 0
TellsPublish old queue entries bytes number new =
    ((number ≡ 106) × (submissions_of entries bytes ≡ None) × (new ≡ old))
    ⊎ ((number ≡ 11) × (new ≡ old))
    ⊎ ((batch : List Submission) × (submissions_of entries bytes ≡ Some batch)
    × TellsStep old (Step.Publish queue batch) (λ a. Unit {0}) number new)
