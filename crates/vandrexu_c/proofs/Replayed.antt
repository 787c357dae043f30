-- What is told of a step that was made since a line has it.
use Rattle.std.proofs.Common.{Bool, Err, Ok, Result, ap, arith, cond, false, inl, inr, length, subst}
use Rattle.std.proofs.Common.{true, ℕ, ◌≡◌, ◌≤◌, ◌∷◌}
use Rattle.nvme_model.specs.History.{Past, step_of}
use Rattle.nvme_model.specs.Steps.{next_entry}
use Rattle.nvme_model.specs.declared.entry.Entry.{Entry}
use Rattle.nvme_model.specs.declared.step.Step.{Step}
use Rattle.controller_interface.specs.State.{ControllerState, Serves}
use Rattle.controller_interface.specs.declared.answer.Answer.{Answer}
use Rattle.controller_interface.specs.declared.answer.Refused.{Refused}
use Rattle.vandrexu_c.specs.OwnedStates.{OwnedState}
use Rattle.vandrexu_c.specs.Replays.{AreOne, GivesDone, ReplaysEntry, TellsAgain, read_last}
use Rattle.vandrexu_c.specs.Steps.{GivesAnswer}

-- by whether what was made is what is due
told_by : (b : Bool) (made e : Entry) (a : Answer) (number : ℕ) → AreOne b made e → number ≡ cond b 0 131
    → TellsAgain made e (Ok a) number
told_by true made e a number one is = inl (is, one)
told_by false made e a number one is = inr (is, one)

-- the newest entry of a controller behind this step is looked at
abbrev pub IsNewest : OwnedState → Bool → Entry → Type 0
IsNewest new b e =
    (m : Entry) (past : Past) → new.core.past ≡ m ∷ past → new.core.forgotten ≤ length past → AreOne b m e

-- what was made, by the answer of the controller
made_by : (old new : OwnedState) (e : Entry) (b : Bool) (number : ℕ) (r : Result Answer Refused)
    → Serves old.core (step_of e) r new.core → new.payload ≡ read_last r old.payload
    → GivesAnswer (λ (x : Unit {0}) (a : Answer). Unit {0}) r (Ok tt) → old.core.forgotten ≤ length old.core.past
    → IsNewest new b e → number ≡ cond b 0 131 → ReplaysEntry old e number new
made_by old new e b number (Ok a) serves payload gives few newest is =
    let made = next_entry old.core.config old.core.past (step_of e) in
    let one = newest made old.core.past (ap (λ (x : ControllerState). x.past) serves.1)
    (omega (arith, few, ap (λ (x : ControllerState). x.forgotten) serves.1)) in
    (Ok a, serves, payload, told_by b made e a number one is)
made_by old new e b number (Err r) serves payload gives few newest is = absurd gives

pub made_again : (old new : OwnedState) (step : Step) (e : Entry) (told : Result (Unit {0}) ℕ) (b : Bool) (number : ℕ)
    → GivesDone old step told new → told ≡ Ok tt → step ≡ step_of e → old.core.forgotten ≤ length old.core.past
    → IsNewest new b e → number ≡ cond b 0 131 → ReplaysEntry old e number new
made_again old new step e told b number gives done of few newest is =
    let g = subst (λ s. GivesDone old s (Ok tt) new) of (subst (λ t. GivesDone old step t new) done gives) in
    made_by old new e b number g.0 g.1 g.2 g.3 few newest is
