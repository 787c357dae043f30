-- What a call that asks a controller for a step answers.
use Rattle.std.specs.Prelude.{Err, List, None, Ok, Option, Result, Some, length, ℕ, ◌≡◌}
use Rattle.nvme_model.specs.declared.step.Step.{Step}
use Rattle.controller_interface.specs.State.{Serves}
use Rattle.controller_interface.specs.declared.answer.Answer.{Answer}
use Rattle.controller_interface.specs.declared.answer.Refused.{Refused}
use Rattle.vandrexu_c.specs.Answers.{blocked_of, fetched_work_of, granted_of, next_step_of, refused_number}
use Rattle.vandrexu_c.specs.OwnedStates.{OwnedState}
use Rattle.vandrexu_c.specs.declared.answers.BlockedStep.{BlockedStep}
use Rattle.vandrexu_c.specs.declared.answers.FetchedWork.{FetchedWork}
use Rattle.vandrexu_c.specs.declared.answers.GrantedUnit.{GrantedUnit}
use Rattle.vandrexu_c.specs.declared.answers.NextStep.{NextStep}

-- what is told of an answer: 0, and the answer so; or the number of the refusal
abbrev pub Tells : (Answer → Type 0) → Result Answer Refused → ℕ → Type 0
Tells P (Ok a) number = (number ≡ 0) × P a
Tells P (Err r) number = number ≡ refused_number r

-- the same as a result: what is told of the answer, or the number of the refusal
abbrev pub GivesAnswer : {X : Type 0} → (X → Answer → Type 0) → Result Answer Refused → Result X ℕ → Type 0
GivesAnswer P (Ok a) (Ok x) = P x a
GivesAnswer P (Err r) (Err number) = number ≡ refused_number r
GivesAnswer P _ _ = ⊥

-- the controller serves this step, and what is told of its answer is this; the data of the last reaped completion stays
abbrev pub GivesStep : {X : Type 0} → OwnedState → Step → (X → Answer → Type 0) → Result X ℕ → OwnedState → Type 0
GivesStep old step P told new =
    (new.payload ≡ old.payload)
    × ((r : Result Answer Refused) × Serves old.core step r new.core × GivesAnswer P r told)

-- the controller serves this step, and its answer is told; the data of the last reaped completion stays
abbrev pub TellsStep : OwnedState → Step → (Answer → Type 0) → ℕ → OwnedState → Type 0
TellsStep old step P number new =
    (new.payload ≡ old.payload)
    × ((r : Result Answer Refused) × Serves old.core step r new.core × Tells P r number)

-- a ticket was fetched with this work
abbrev pub TellsFetched : FetchedWork → Answer → Type 0
TellsFetched work (Answer.Fetched w) = work ≡ fetched_work_of w
TellsFetched work _ = ⊥

-- this unit was granted
abbrev pub TellsGranted : GrantedUnit → Answer → Type 0
TellsGranted granted (Answer.Granted unit range mode) = granted ≡ granted_of unit range mode
TellsGranted granted _ = ⊥

-- a Block did this
abbrev pub TellsBlocked : BlockedStep → Answer → Type 0
TellsBlocked blocked (Answer.Blocked done) = blocked ≡ blocked_of done
TellsBlocked blocked _ = ⊥

-- this completion was posted
abbrev pub TellsPosted : List ℕ → Answer → Type 0
TellsPosted cqe (Answer.Posted posted) = cqe ≡ posted
TellsPosted cqe _ = ⊥

-- this completion was reaped, with these data
abbrev pub TellsReaped : List ℕ → List ℕ → Answer → Type 0
TellsReaped cqe payload (Answer.Reaped reaped read) = (cqe ≡ reaped) × (payload ≡ read)
TellsReaped cqe payload _ = ⊥

-- the same of a Reap, whose data are kept
abbrev pub GivesReap : OwnedState → Step → Result (List ℕ) ℕ → OwnedState → Type 0
GivesReap old step told new =
    ((r : Result Answer Refused) × Serves old.core step r new.core
    × GivesAnswer (λ cqe. TellsReaped cqe new.payload) r told)
    × ((number : ℕ) → told ≡ Err number → new.payload ≡ old.payload)

-- A Reap is served: what was read is kept, and how many bytes that are is told; or it is refused, and the data that are
-- kept stay.
abbrev pub TellsReap : OwnedState → Step → List ℕ → ℕ → ℕ → OwnedState → Type 0
TellsReap old step cqe count number new =
    (r : Result Answer Refused) × Serves old.core step r new.core × Tells (TellsReaped cqe new.payload) r number
    × ((number ≡ 0 → ⊥) → new.payload ≡ old.payload) × (number ≡ 0 → count ≡ length new.payload)

-- the step that is ready, or 105 where none is
abbrev pub TellsReady : Option Step → ℕ → NextStep → Type 0
TellsReady None number told = number ≡ 105
TellsReady (Some step) number told = (number ≡ 0) × (next_step_of step ≡ Some told)
