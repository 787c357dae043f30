-- The numbers of what a step of a shared controller is answered.
use Rattle.std.specs.Prelude.{Err, Ok, Result, if◌then◌else◌, ℕ, ◌==◌}
use Rattle.nvme_model.specs.Refusals.{refusal_number}
use Rattle.nvme_model.specs.declared.refusal.Why.{Why}
use Rattle.controller_interface.specs.declared.answer.Refused.{Refused}
use Rattle.meet_lock.specs.declared.pass.Declined.{Declined}

-- the number of why a step isn't made
abbrev pub declined_number : Declined → ℕ
declined_number (Declined.Busy s) = refusal_number Why.Busy
declined_number (Declined.Refused (Refused.Publish why batch)) = refusal_number why
declined_number (Declined.Refused (Refused.Step why)) = refusal_number why

-- 0 for a step that is made, else the number of why it isn't
abbrev pub answer_number : {A : Type 0} → Result A Declined → ℕ
answer_number (Ok a) = 0
answer_number (Err d) = declined_number d

-- what is told where tasks were made until one was answered this: 0 where none is left, 113 where that one was made too
abbrev pub end_number : ℕ → ℕ
end_number n = if n == 0 then 113 else (if n == 105 then 0 else n)
