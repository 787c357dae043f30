-- What a step gives is told as a number.
use Rattle.std.proofs.Common.{refl}
use Rattle.std.specs.Prelude.{Err, Ok, Result, ℕ}
use Rattle.controller_interface.specs.declared.answer.Answer.{Answer}
use Rattle.controller_interface.specs.declared.answer.Refused.{Refused}
use Rattle.vandrexu_c.specs.Steps.{GivesAnswer, Tells}

pub told_ok : {X : Type 0} (P : X → Answer → Type 0) (r : Result Answer Refused) (x : X) → GivesAnswer P r (Ok x)
    → Tells (P x) r 0
told_ok P (Ok a) x h = (refl, h)
told_ok P (Err e) x h = absurd h

pub told_err : {X : Type 0} (P : X → Answer → Type 0) (r : Result Answer Refused) (x : X) (n : ℕ)
    → GivesAnswer P r (Err n) → Tells (P x) r n
told_err P (Ok a) x n h = absurd h
told_err P (Err e) x n h = h
