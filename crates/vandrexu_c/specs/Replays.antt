-- What a call answers that makes the step of a history's line once more.
use Rattle.std.specs.Prelude.{Bool, Err, List, None, Ok, Result, Some, false, true, ℕ, ◌≡◌, ◌≢◌, ◌⊎◌}
use Rattle.nvme_model.specs.History.{step_of}
use Rattle.nvme_model.specs.Steps.{next_entry}
use Rattle.nvme_model.specs.declared.entry.Entry.{Entry}
use Rattle.nvme_model.specs.declared.step.Step.{Step}
use Rattle.controller_interface.specs.State.{Serves}
use Rattle.controller_interface.specs.declared.answer.Answer.{Answer}
use Rattle.controller_interface.specs.declared.answer.Refused.{Refused}
use Rattle.history.specs.Lines.{entry_in}
use Rattle.vandrexu_c.specs.Answers.{refused_number}
use Rattle.vandrexu_c.specs.OwnedStates.{OwnedState}
use Rattle.vandrexu_c.specs.Steps.{GivesAnswer}

-- whether two are one
abbrev pub AreOne : {A : Type 0} → Bool → A → A → Type 0
AreOne true a b = a ≡ b
AreOne false a b = a ≢ b

-- the data of the completion that was reaped last, behind a step that was answered so
abbrev pub read_last : Result Answer Refused → List ℕ → List ℕ
read_last (Ok (Answer.Reaped cqe read)) before = read
read_last _ before = before

-- the step is served, and its refusal is told by its number; a Reap's data are kept
abbrev pub GivesDone : OwnedState → Step → Result (Unit {0}) ℕ → OwnedState → Type 0
GivesDone old step told new =
    (r : Result Answer Refused) × Serves old.core step r new.core × (new.payload ≡ read_last r old.payload)
    × GivesAnswer (λ _ _. Unit {0}) r told

-- what is told of a step that is made since an entry has it: 0 where it adds this entry, 131 where it adds another, or
-- the number of its refusal
abbrev pub TellsAgain : (made e : Entry) → Result Answer Refused → ℕ → Type 0
TellsAgain made e (Ok a) number = ((number ≡ 0) × (made ≡ e)) ⊎ ((number ≡ 131) × (made ≢ e))
TellsAgain made e (Err r) number = number ≡ refused_number r

-- the step of an entry is served; a Reap's data are kept
abbrev pub ReplaysEntry : OwnedState → Entry → ℕ → OwnedState → Type 0
ReplaysEntry old e number new =
    (r : Result Answer Refused) × Serves old.core (step_of e) r new.core
    × (new.payload ≡ read_last r old.payload)
    × TellsAgain (next_entry old.core.config old.core.past (step_of e)) e r number

-- A line was offered: it is none of a history, or memory was refused, and no step was made; or the step of its entry
-- was served.
abbrev pub Replays : OwnedState → List ℕ → ℕ → OwnedState → Type 0
Replays old line number new =
    ((number ≡ 107) × (entry_in line ≡ None) × (new ≡ old))
    ⊎ ((number ≡ 11) × (new ≡ old))
    ⊎ ((e : Entry) × (entry_in line ≡ Some e) × ReplaysEntry old e number new)
