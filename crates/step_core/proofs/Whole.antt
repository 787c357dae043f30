-- Runs of many steps.
use Rattle.std.proofs.Common.{◌≡◌, List, [], ◌∷◌, ◌++◌, Result, refl, ap, subst, ◌∙◌, append_assoc}
use mathlib.Core.List.{reverse}
use Rattle.std.proofs.lemmas.List.{reverse-append}
use Rattle.nvme_model.specs.declared.step.Step.{Step}
use Rattle.nvme_model.specs.Kept.{ControllerInvariant}
use Rattle.controller_interface.specs.declared.answer.Answer.{Answer}
use Rattle.controller_interface.specs.declared.answer.Refused.{Refused}
use Rattle.controller_interface.specs.State.{RunsSteps, RunsOnto}
use Rattle.controller_interface.specs.State.{Serves, ControllerState}

-- the history of a controller is legal, and its marks are right
abbrev pub KeptBy : ControllerState → Type 0
KeptBy x = ControllerInvariant x.config x.past

-- one step more
Runs-push : (old mid new : ControllerState) (steps : List Step) (rs : List (Result Answer Refused)) (step : Step)
    (r : Result Answer Refused) → RunsSteps old steps rs mid → Serves mid step r new
    → RunsSteps old (steps ++ step ∷ []) (rs ++ r ∷ []) new
Runs-push old mid new [] [] step r e served = (new, subst (λ (m : ControllerState). Serves m step r new) e served, refl)
Runs-push old mid new (s ∷ steps) (x ∷ rs) step r run served =
    (run.0, run.1, Runs-push run.0 mid new steps rs step r run.2 served)
Runs-push old mid new [] (x ∷ rs) step r run served = absurd run
Runs-push old mid new (s ∷ steps) [] step r run served = absurd run

pub RunsOnto-push : (old mid new : ControllerState) (steps : List Step) (before out out' : List (Result Answer Refused))
    (step : Step) (r : Result Answer Refused) → RunsOnto old steps before out mid → Serves mid step r new
    → out' ≡ out ++ r ∷ []
    → RunsOnto old (steps ++ step ∷ []) before out' new
RunsOnto-push old mid new steps before out out' step r run served is = (
  run.0 ++ r ∷ [],
  is ∙ ap (λ x. x ++ r ∷ []) run.1 ∙ append_assoc before run.0 (r ∷ []),
  Runs-push old mid new steps run.0 step r run.2 served,
)

-- of the first of some steps that are left in reverse
pub reverse_push : {X : Type 0} (xs : List X) (x : X) → reverse (xs ++ x ∷ []) ≡ x ∷ reverse xs
reverse_push xs x = reverse-append xs (x ∷ [])
