-- One more step of a controller that makes what is ready.
use Rattle.std.proofs.Common.{Err, Ok, Result, Some, arith, false, inr, refl, subst, suc, true, ℕ, ◌+◌, ◌≡◌}
use Rattle.std.specs.Result.{is_err}
use Rattle.nvme_model.specs.Steps.{ready}
use Rattle.nvme_model.specs.declared.step.Step.{Step}
use Rattle.controller_interface.specs.State.{ControllerState, Serves}
use Rattle.controller_interface.specs.declared.answer.Answer.{Answer}
use Rattle.controller_interface.specs.declared.answer.Refused.{Refused}
use Rattle.vandrexu_c.specs.Settling.{Settles, SettlesAll}

module _ (n : ℕ) (old mid new : ControllerState) (step : Step) (some : ready mid.config mid.past ≡ Some step) where
  -- one that was made
  pub one_more : (r : Result Answer Refused) → Settles n old mid → Serves mid step r new → is_err r ≡ false
      → Settles (n + 1) old new
  one_more (Ok a) before serves e =
      let more : Settles (suc n) old new = (mid, before, step, a, some, serves) in
      let more_by_one : suc n ≡ n + 1 = omega arith in
      subst (λ k. Settles k old new) more_by_one more
  one_more (Err r) before serves e = cc

  -- one that was refused
  pub none_more : (r : Result Answer Refused) → Settles n old mid → Serves mid step r new → is_err r ≡ true
      → SettlesAll old 11 new
  none_more (Ok a) before serves e = cc
  none_more (Err r) before serves e = (n, mid, before, inr (refl, (step, r, some, serves)))
