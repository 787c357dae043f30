-- What a call does that makes all that is ready.
use Rattle.std.specs.Prelude.{Err, None, Ok, Some, suc, zero, ℕ, ◌-◌, ◌^◌, ◌≡◌, ◌⊎◌}
use Rattle.nvme_model.specs.Steps.{ready}
use Rattle.nvme_model.specs.declared.step.Step.{Step}
use Rattle.controller_interface.specs.State.{ControllerState, Serves}
use Rattle.controller_interface.specs.declared.answer.Answer.{Answer}
use Rattle.controller_interface.specs.declared.answer.Refused.{Refused}

-- so many steps, each the one that is ready, lead from one controller to the other
abbrev pub Settles : ℕ → ControllerState → ControllerState → Type 0
Settles zero old new = new ≡ old
Settles (suc n) old new =
    (mid : ControllerState) × Settles n old mid × (step : Step) × (a : Answer)
    × (ready mid.config mid.past ≡ Some step) × Serves mid step (Ok a) new

-- Nothing more is made behind so many steps, and it is told why: 0, where nothing is ready or 2^64 - 1 steps were made;
-- or 11, where the step that is ready is refused.
abbrev pub IsSettled : ℕ → ControllerState → ℕ → ControllerState → Type 0
IsSettled n mid number new =
    ((number ≡ 0) × (new ≡ mid) × ((ready mid.config mid.past ≡ None) ⊎ (n ≡ 2 ^ 64 - 1)))
    ⊎ ((number ≡ 11) × ((step : Step) × (r : Refused) × (ready mid.config mid.past ≡ Some step)
    × Serves mid step (Err r) new))

-- what is ready was made, one step after the other, until nothing was or one was refused
abbrev pub SettlesAll : ControllerState → ℕ → ControllerState → Type 0
SettlesAll old number new =
    (n : ℕ) × (mid : ControllerState) × Settles n old mid × IsSettled n mid number new
